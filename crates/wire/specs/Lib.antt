pub mod Places
pub mod Reads
pub mod Make
