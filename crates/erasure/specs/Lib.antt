pub mod Fragments
pub mod Choice
pub mod Steps
pub mod System
pub mod Weights
pub mod Lanes
pub mod Standing
pub mod Chosen
