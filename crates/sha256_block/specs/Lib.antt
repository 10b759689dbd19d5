-- The meaning of taking blocks into a hash value.
pub mod Compression
