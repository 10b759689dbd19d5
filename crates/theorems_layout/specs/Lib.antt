-- What is claimed of the tree of a written file.
pub mod WrittenTree
-- How it is laid out.
pub mod WrittenLayout
