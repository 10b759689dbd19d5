-- The meaning of a payload: records or entries.
pub mod Payload
pub mod Answers
