-- Laws of putting a header.
pub mod HeaderPutLaws
