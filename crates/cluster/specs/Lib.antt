pub mod Config
pub mod Ranges
pub mod Refusals
