-- Laws of byte strings and of their parts.
pub mod BytesLaws
pub mod PartLaws
