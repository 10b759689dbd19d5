-- Laws of a lent list of answers, for the proofs of those that fill one.
pub mod OutputListLaws
