-- Laws of putting the index.
pub mod StoredLaws
pub mod KeyAfterLaws
pub mod LastRecordLaws
pub mod ChildLaws
pub mod ChildrenBackLaws
pub mod EntryLaws
pub mod LevelLaws
pub mod LevelsLaws
pub mod RaiseLaws
