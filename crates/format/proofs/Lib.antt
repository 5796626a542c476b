pub mod Answers
pub mod Formats
pub mod Repeats
pub mod Leaves
pub mod Puts
pub mod Walks
pub mod Places
