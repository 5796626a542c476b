pub mod Stored
pub mod Planned
pub mod Counted
