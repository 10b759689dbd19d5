-- Laws of importing a SIM phonebook.
pub mod OccupiedLaws
pub mod SurveyLaws
pub mod BytesLaws
pub mod RecordLaws
pub mod ImportLaws
