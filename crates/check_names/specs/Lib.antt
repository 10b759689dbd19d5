-- What the work list holds.
pub mod Starts
pub mod Names
