-- Importing is as claimed.
pub mod NameTheorems
pub mod RecordTheorems
pub mod JudgeLaws
pub mod ImportTheorems
pub mod NumberTheorems
pub mod GivenTheorems
pub mod WriteImported
