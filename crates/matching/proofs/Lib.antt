-- Laws of matches and of the result list.
pub mod MatchLaws
pub mod PackingLaws
pub mod ResultListLaws
pub mod CollectLaws
pub mod RecordsLaws
pub mod FrameRecordsLaws
