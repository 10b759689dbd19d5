-- The meaning of writing a file.
pub mod Write
pub mod Steps
