-- The meaning of SHA-256, whole and piece by piece.
pub mod Sha256
pub mod State
