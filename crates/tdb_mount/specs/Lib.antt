pub mod Broken
pub mod Choice
pub mod Format
pub mod Index
pub mod Keys
pub mod Mounted
pub mod Refusals
pub mod Room
