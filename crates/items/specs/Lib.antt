-- Items that follow one another.
pub mod Items
