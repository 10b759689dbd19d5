-- The meaning of sorting.
pub mod Sorting
pub mod Heap
