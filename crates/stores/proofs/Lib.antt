-- Laws of stores.
pub mod CarryOutLaws
pub mod FileStoreLaws
