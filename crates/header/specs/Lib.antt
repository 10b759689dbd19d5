-- The meaning of the header.
pub mod Metadata
pub mod Header
pub mod MetadataPart
