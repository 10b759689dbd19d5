-- The meaning of the CRC's table, of products of registers, and of lanes.
pub mod Lanes
pub mod Product
pub mod Table
