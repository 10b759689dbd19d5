-- What is claimed of reading front to back.
pub mod ReadByRules
pub mod Pairs
