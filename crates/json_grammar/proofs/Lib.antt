-- Laws of the grammar and of its recogniser.
pub mod BindLaws
pub mod ByteLaws
pub mod FrontLaws
pub mod SpaceLaws
pub mod NumberLaws
pub mod StringLaws
pub mod ScalarLaws
pub mod ItemsSound
pub mod Soundness
pub mod ShorterLaws
pub mod FuelLaws
pub mod ItemsComplete
pub mod Completeness
pub mod Recognised
