-- Laws of a record as a part of the file.
pub mod RecordLaws
