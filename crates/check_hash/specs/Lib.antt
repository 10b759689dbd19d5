-- The meaning of the check of the hash.
pub mod Hash
