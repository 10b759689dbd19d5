-- What is claimed of stores.
pub mod StoredByRules
