pub mod Commands
pub mod Items
pub mod Shown
pub mod Splits
pub mod Values
