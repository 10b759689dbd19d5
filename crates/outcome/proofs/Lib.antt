-- Laws of answers and refusals.
pub mod OutcomeLaws
pub mod RefusalLaws
pub mod ResultLaws
