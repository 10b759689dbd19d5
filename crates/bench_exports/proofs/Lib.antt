-- Laws of what the benchmark calls.
pub mod DigestLaws
pub mod MatchesLaws
pub mod ItemsLaws
