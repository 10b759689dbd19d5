-- The meaning of the CRC-64 checksum.
pub mod Crc64
