pub mod Told
pub mod History
pub mod Host
pub mod Handle
