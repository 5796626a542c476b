pub mod Listing
pub mod Decided
pub mod Steps
