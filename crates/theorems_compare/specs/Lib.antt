-- What is claimed of comparing two files.
pub mod ComparedByRules
