-- What is claimed of importing.
pub mod Names
pub mod ImportedByRules
