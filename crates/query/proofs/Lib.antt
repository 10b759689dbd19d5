-- The laws of queries and of the opening test, for the proofs of this crate and of its callers.
pub mod QueryLaws
pub mod OpeningLaws
