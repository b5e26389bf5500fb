pub mod Runs
pub mod Scripts
pub mod Events
pub mod Worked
pub mod Plain
pub mod Shadows
pub mod Refusals
pub mod Known
