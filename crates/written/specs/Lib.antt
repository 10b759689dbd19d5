-- The meaning of an answer about a lent output.
pub mod Written
