pub mod Reads
pub mod Answers
pub mod Valid
pub mod Ranks
pub mod Filter
pub mod Blank
