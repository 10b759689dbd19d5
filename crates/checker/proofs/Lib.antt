-- The check as a whole: its stages one after the other, and its ways out.
pub mod StageLaws
pub mod CheckLaws
