pub mod Entries
pub mod Logs
pub mod Images
pub mod Chains
pub mod ByIndex
pub mod Loads
