-- The meaning of a query, and of opening a block.
pub mod Query
pub mod Opening
pub mod Asked
