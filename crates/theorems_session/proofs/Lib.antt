-- Laws and theorems of a writing session.
pub mod FiguresLaws
pub mod LaidBehind
pub mod FiguresTheorem
pub mod NoneEarlyLaws
pub mod FinishedTheorem
pub mod GrownTheorem
pub mod AnsweredSteps
pub mod RunTheorems
pub mod StepTheorems
pub mod SessionTheorem
pub mod LastLaws
pub mod StageCases
pub mod StepEndsTheorems
pub mod NeverEarlyTheorem
pub mod FinishAsWriter
pub mod BegunTheorem
pub mod TakenTheorems
