-- What reading front to back and the search share: which records match, and how a match goes on the result list.
pub mod Matching
pub mod Packing
pub mod ResultList
