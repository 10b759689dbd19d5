-- Laws of SHA-256.
pub mod AbsorbLaws
pub mod DigestLaws
pub mod FillLaws
pub mod StateLaws
