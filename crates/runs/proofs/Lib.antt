pub mod ValueRuns
pub mod LentKeys
pub mod RunLift
pub mod ContentLengths
pub mod RequestLengths
pub mod Accounts
