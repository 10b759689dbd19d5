-- Theorems about writing.
pub mod InputTheorems
pub mod NumberTheorems
pub mod FileHolds
pub mod WriteTheorems
pub mod ReadBack
