pub mod Sheet
pub mod Reads
pub mod Steps
pub mod Listing
pub mod Area
pub mod Moves
