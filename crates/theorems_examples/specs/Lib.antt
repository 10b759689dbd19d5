-- The examples, as one table.
pub mod Examples
