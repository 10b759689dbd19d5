-- Laws of putting a record into the open block.
pub mod OpenBlockLaws
