-- The meaning of numbers in slots.
pub mod Slots
