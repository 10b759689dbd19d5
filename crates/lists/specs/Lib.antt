-- Lists: the elements that pass a test, and whether any or all do.
pub mod Lists
pub mod Groups
