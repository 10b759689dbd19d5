-- The laws of the order of byte strings, for the proofs of this crate and of its callers.
pub mod OrderLaws
pub mod PrefixLaws
pub mod BytesLaws
pub mod AgreeingLaws
pub mod ComparisonLaws
pub mod SameLaws
mod WordLaws
