pub mod Entries
pub mod WordBytes
pub mod Rounds
pub mod Inverses
