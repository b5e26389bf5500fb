pub mod Pages
pub mod Entries
pub mod Flat
pub mod Log
pub mod LogStore
pub mod Image
pub mod Load
pub mod ByIndex
