pub mod ChipState
pub mod Fates
pub mod Laws
pub mod Patterns
pub mod Plan
pub mod Views
