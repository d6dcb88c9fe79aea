pub mod Lookups
pub mod Passes
