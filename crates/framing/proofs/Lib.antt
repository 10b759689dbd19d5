-- Laws of numbers and frames.
pub mod FrameLaws
pub mod RefusalLaws
