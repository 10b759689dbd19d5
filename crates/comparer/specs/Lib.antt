-- The meaning of comparing two files.
pub mod Compare
pub mod Steps
pub mod Reported
