pub mod Answers
pub mod Rounds
pub mod Core
pub mod Steps
pub mod Filter
