-- Laws of beginning and finishing a file.
pub mod CountsLaws
pub mod FitLaws
pub mod BeginLaws
pub mod IndexLaws
pub mod FinishLaws
