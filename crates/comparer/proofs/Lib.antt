-- The laws of comparing two files.
pub mod ListLaws
pub mod StepLaws
pub mod CompareLaws
