-- The meaning of stores.
pub mod Store
pub mod FileStores
