-- The tree of a file's blocks, and its rules.
pub mod Tree
pub mod Stages
