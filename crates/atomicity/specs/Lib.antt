pub mod Lists
pub mod Steps
pub mod Premises
pub mod Claim
pub mod Page41
pub mod Traffic
