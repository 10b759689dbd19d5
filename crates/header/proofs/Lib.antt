-- The laws of the header.
pub mod MetadataLaws
pub mod RuleLaws
pub mod HeaderLaws
pub mod MetadataPartLaws
