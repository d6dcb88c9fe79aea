pub mod Attempts
pub mod Desks
pub mod Histories
pub mod Passes
pub mod Turns
pub mod Twice
