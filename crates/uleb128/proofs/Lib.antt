-- Laws of numbers: NumberLaws for every crate that reads a number, PassedLaws for the loop of `read_number`.
pub mod NumberLaws
pub mod EncodingLaws
mod PassedLaws
