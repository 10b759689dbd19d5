-- What is claimed of writing.
pub mod WrittenByRules
