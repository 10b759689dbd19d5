-- The laws of the CRC-64 checksum, for callers of this crate.
-- Assumes nothing.
pub use Rattle.crc64_register.proofs.Crc64Laws.{crc64_of, crc64_lt, crc64-append}
