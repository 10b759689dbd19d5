-- The meaning of what the benchmark calls.
pub mod Digest
pub mod Matches
