-- The meaning of a number of the format.
pub mod Number
pub mod Encoding
