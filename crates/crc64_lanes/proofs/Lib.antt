-- Laws of the CRC's table, of products of registers, and of lanes.
pub mod LaneLaws
pub mod ProductLaws
pub mod TableLaws
