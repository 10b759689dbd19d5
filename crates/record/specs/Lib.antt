-- The meaning of handing back a record.
pub mod Record
