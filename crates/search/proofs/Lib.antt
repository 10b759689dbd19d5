-- Laws of the index search: opening a block, the block of an entry, the matches of a data block, the walk, the search.
pub mod OpeningLaws
pub mod ChildLaws
pub mod FindLaws
pub mod WalkLaws
pub mod OnwardLaws
pub mod StepLaws
pub mod SearchLaws
