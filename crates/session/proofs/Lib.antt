-- Laws of the steps of a session.
pub mod TakenLaws
pub mod BeginLaws
pub mod LastLaws
pub mod OpenLaws
pub mod AddLaws
pub mod FinishLaws
