-- Laws of the writer.
pub mod InputRuleLaws
pub mod DataLaws
pub mod ReadyLaws
pub mod WriteLaws
pub mod PutFileLaws
