-- The meaning of putting the index.
pub mod Children
pub mod Level
pub mod Raise
