-- The meaning of a lent list of answers.
pub mod OutputList
