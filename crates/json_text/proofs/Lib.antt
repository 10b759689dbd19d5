-- Laws of what is left.
pub mod FrontLaws
pub mod StringLaws
pub mod ScalarLaws
pub mod ContainerLaws
pub mod CaseLaws
