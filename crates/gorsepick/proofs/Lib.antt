mod Halves
mod OverWords
mod Made
