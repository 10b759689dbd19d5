-- The layout of a file that the writer makes.
pub mod Blocks
pub mod Index
pub mod File
pub mod Placed
