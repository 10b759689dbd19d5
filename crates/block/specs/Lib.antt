-- The meaning of a block, and the blocks of a file.
pub mod Block
pub mod Survey
pub mod Laid
pub mod Answers
