-- The meaning of a frame.
pub mod Frame
pub mod Answers
