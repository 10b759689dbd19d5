-- The meaning of a cursor.
pub mod Cursor
