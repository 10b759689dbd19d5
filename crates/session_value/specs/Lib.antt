-- The meaning of a writing session.
pub mod Stage
pub mod Steps
pub mod Held
pub mod Values
