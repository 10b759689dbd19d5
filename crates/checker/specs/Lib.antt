-- The meaning of the check, and what is reported of it.
pub mod Check
pub mod Reported
