-- Laws of records of a SIM phonebook.
pub mod AdnLaws
