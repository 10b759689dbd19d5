-- The tree of an accepted file: each block once, cuts and bounds.
pub mod TreePreorder
pub mod TreeUnique
pub mod TreeLevels
pub mod TreeCuts
pub mod TreeBounds
pub mod TreeFile
