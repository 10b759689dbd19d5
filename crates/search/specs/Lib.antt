-- The meaning of the index search.
pub mod Search
pub mod Steps
