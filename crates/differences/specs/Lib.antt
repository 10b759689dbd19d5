-- The meaning of what differs between two files.
pub mod Differences
pub mod Merge
