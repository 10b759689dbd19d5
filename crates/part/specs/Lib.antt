-- Byte strings, and their parts.
pub mod Bytes
pub mod Part
