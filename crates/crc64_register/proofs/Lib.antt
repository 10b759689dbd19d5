-- Laws of the CRC-64 register and checksum.
pub mod Crc64Laws
pub mod LinearLaws
