-- The rules of the format, and what is claimed of the check.
pub mod Rules
pub mod CheckedByRules
