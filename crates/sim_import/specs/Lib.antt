-- The meaning of importing a SIM phonebook.
pub mod Import
pub mod Survey
pub mod Steps
