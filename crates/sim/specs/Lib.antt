-- The meaning of a record of a SIM phonebook.
pub mod Adn
