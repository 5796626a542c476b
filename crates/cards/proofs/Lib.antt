pub mod Right
pub mod Examples
