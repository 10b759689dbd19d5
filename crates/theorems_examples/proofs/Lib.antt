-- The definitions answer every example.
pub mod Examples
