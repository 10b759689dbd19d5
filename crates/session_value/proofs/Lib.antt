-- Laws of a writing session.
pub mod ValueLaws
pub mod DraftLaws
pub mod DraftFileLaws
pub mod SessionLaws
