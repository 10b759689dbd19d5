-- The meaning of beginning and finishing a file.
pub mod Begun
