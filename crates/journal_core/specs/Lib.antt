pub mod Clients
pub mod JournalState
pub mod Texts
