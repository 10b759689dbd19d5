-- All blocks of a file in walk order.
pub mod Preorder
