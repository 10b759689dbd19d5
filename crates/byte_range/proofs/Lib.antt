-- Laws of bytes from one to another.
pub mod RangeLaws
