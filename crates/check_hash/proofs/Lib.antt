-- Laws of the hash over the payloads of the data blocks.
pub mod HashLaws
