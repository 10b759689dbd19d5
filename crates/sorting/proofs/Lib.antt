-- The laws of sorting, for the proofs of its callers.
pub mod PermutationLaws
pub mod SortedLaws
pub mod HeapLaws
