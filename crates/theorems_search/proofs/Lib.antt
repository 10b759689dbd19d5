-- The search of an accepted file.
pub mod Events
pub mod EventsLaws
pub mod SearchEvents
pub mod SearchFinds
pub mod SearchRoom
pub mod SearchReads
-- The search on any bytes.
pub mod WalkSteps
pub mod SearchTheorems
pub mod SearchNumbers
pub mod WalkGrows
pub mod SearchLocal
pub mod FoundPlaces
pub mod OtherRoom
pub mod ShortRoom
pub mod SearchPairs
-- The blocks that the search opens: exactly those of the rule, and few in vain.
pub mod KeptLaws
pub mod RuleWays
pub mod OpenedExactly
pub mod LeadsLaws
pub mod TwoInVain
pub mod OpenedFile
pub mod SearchAccepted
