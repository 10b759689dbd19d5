-- Numbers of matches, and the pairs that they unpack to.
pub mod PairLaws
-- Reading front to back, on any bytes.
pub mod ReadTheorems
pub mod ReadNumbers
pub mod ReadPairs
-- And of an accepted file.
pub mod ReadAccepted
