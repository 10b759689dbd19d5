-- Laws of UTF-8.
pub mod Utf8Laws
pub mod StdLaws
