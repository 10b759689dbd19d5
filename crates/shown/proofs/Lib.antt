-- The laws of a part of one of two files.
pub mod ShownLaws
