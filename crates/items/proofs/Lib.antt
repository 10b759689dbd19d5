-- Laws of items that follow one another.
pub mod ItemsLaws
pub mod RunLaws
pub mod GoingLaws
pub mod RefusalItemsLaws
pub mod SoundLaws
