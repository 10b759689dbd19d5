-- The meaning of a part of one of two files.
pub mod Shown
pub mod Which
