pub mod Host
pub mod Units
pub mod History
