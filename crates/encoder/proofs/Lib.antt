-- Laws of putting numbers and blocks.
pub mod PutLaws
