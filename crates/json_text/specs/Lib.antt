-- What the code of the recogniser answers.
pub mod Answers
