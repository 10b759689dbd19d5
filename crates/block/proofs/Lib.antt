-- Laws of blocks.
pub mod BlockLaws
pub mod SurveyLaws
pub mod LocalLaws
pub mod HeldLaws
pub mod TileLaws
pub mod RefusalLaws
pub mod LaidLaws
