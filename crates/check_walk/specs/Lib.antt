-- What the walks of the check do.
pub mod Lookup
pub mod Ascent
pub mod Keys
pub mod Walk
