-- The meaning of the order of byte strings.
pub mod Order
pub mod Rising
