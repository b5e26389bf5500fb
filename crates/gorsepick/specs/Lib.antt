pub mod Digits
pub mod Answers
pub mod Kinds
pub mod Made
pub mod Commands
