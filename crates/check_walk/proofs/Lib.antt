-- What the code of refusals 22 to 24 rests on, and that the walks find what the rules state (`walked_rules`).
pub mod LookupLaws
pub mod AscentLaws
pub mod KeyLaws
pub mod SpanLaws
pub mod WalkLaws
pub mod WalkedLaws
pub mod NeighbourLaws
pub mod MisfitLaws
pub mod FirstMisfitLaws
pub mod ReadyLaws
