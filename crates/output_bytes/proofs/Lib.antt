-- Laws of lent outputs.
pub mod OutputBytesLaws
pub mod CopyLaws
