-- The laws of what differs between two files.
pub mod MergeLaws
pub mod SumLaws
pub mod CopyLaws
pub mod StrictLaws
pub mod DifferingLaws
pub mod PassingLaws
pub mod MergedDifferences
