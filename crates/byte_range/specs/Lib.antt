-- Bytes from one to another.
pub mod Range
