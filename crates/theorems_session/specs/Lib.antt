-- What is claimed of a writing session.
pub mod Figures
pub mod Run
pub mod SessionByRules
pub mod StepEnds
pub mod EarlyRun
pub mod FinishNumber
pub mod BegunByRules
pub mod StepRun
