-- The tree of a file's blocks: what its rules say, ways down from the root, and that walk order is file order.
pub mod StageLaws
pub mod TreeLaws
pub mod TreeWays
pub mod TreeKeys
pub mod TreeBlocks
