pub mod ReplyLengths
pub mod Stores
pub mod PacketSizes
pub mod RequestSizes
pub mod Counts
