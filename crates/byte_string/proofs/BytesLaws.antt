-- The laws of `AreBytes`, for callers of this crate.
-- Assumes nothing.
pub use Rattle.part.proofs.BytesLaws.{bytes_at, bytes_of_below, bytes_append, bytes_left, bytes_right, bytes_take, bytes_drop, bytes_reverse}
