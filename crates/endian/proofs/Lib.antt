-- Laws of numbers of a fixed width.
pub mod FixedWidthLaws
pub mod StdLaws
