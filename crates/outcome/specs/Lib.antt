-- An answer or a refusal.
pub mod Outcome
pub mod Fault
