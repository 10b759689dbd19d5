-- Laws of the items of a payload.
pub mod PayloadLaws
pub mod ScanLaws
pub mod ReadLaws
pub mod RefusalLaws
