-- The grammar of JSON.
pub mod Grammar
pub mod Recogniser
