pub mod Claimed
