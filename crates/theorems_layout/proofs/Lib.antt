-- The tree of a written file.
pub mod WrittenSizes
pub mod Levels
pub mod WritableLaws
pub mod IndexNames
pub mod PlacedLaws
pub mod WrittenNames
pub mod WrittenWalk
pub mod SortedParts
pub mod WrittenRecords
pub mod WrittenKeys
pub mod DataKeys
pub mod ShortKeys
pub mod FullLevels
pub mod LevelCounts
pub mod WrittenTree
pub mod WrittenFile
