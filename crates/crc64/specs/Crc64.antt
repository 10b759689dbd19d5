-- The CRC-64 of the format, as crate `crc64_register` defines it.
unfoldable pub use Rattle.crc64_register.specs.Crc64.{reversed, polynomial, all_ones, bit_step, bit_steps, byte_step}
unfoldable pub use Rattle.crc64_register.specs.Crc64.{register_start, register, crc_of, crc64}
