-- What is claimed of the search.
pub mod OpeningRule
pub mod SearchedByRules
pub mod Locality
pub mod SearchPairs
