-- Theorems about stores.
pub mod CutTheorems
pub mod StoreTheorems
pub mod WrittenTheorems
