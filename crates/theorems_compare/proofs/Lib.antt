-- What holds of comparing two files.
pub mod DifferenceTheorems
pub mod CompareTheorems
