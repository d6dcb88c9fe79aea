pub mod Copies
pub mod Payload
pub mod Collection
pub mod Kept
