-- The laws of a cursor, for the proofs of its callers.
pub mod CursorLaws
