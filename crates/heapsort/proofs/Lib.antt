-- The laws of heapsort, for the proofs of this crate.
mod HeapsortLaws
