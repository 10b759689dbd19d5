-- Laws of reading front to back.
pub mod FramesLaws
pub mod ReadLaws
pub mod PlaceLaws
