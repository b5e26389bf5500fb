pub mod Script
pub mod View
pub mod Laws
pub mod Positions
