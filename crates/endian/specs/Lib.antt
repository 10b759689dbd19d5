-- The meaning of numbers of a fixed width.
pub mod FixedWidth
