-- A lent output of bytes.
pub mod OutputBytes
