-- What the code of refusals 18, 19 and 20 rests on.
pub mod LaidNamesLaws
pub mod SearchLaws
pub mod StartsLaws
pub mod HopLaws
pub mod WordLaws
pub mod EntryLaws
pub mod EntriesLaws
pub mod BlockNamesLaws
pub mod CountLaws
pub mod NamesLaws
