-- Laws of the blocks of SHA-256.
pub mod BlockLaws
pub mod ChooseLaws
