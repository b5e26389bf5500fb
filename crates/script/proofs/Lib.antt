pub mod Decoded
pub mod Positions
