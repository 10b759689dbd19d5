-- The check accepts exactly the files that keep the rules.
pub mod FillLaws
pub mod ItemRuleLaws
pub mod SortedLaws
pub mod HeaderRuleLaws
pub mod BlockRuleLaws
pub mod NeighbourLaws
pub mod TiledLaws
pub mod OrderedLaws
pub mod TreeRuleLaws
pub mod BlockNumbers
pub mod EarlyStages
pub mod AcceptLaws
pub mod RecordsSorted
pub mod PlacesLaws
pub mod CheckTheorems
pub mod SmallestFile
