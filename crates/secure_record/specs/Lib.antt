pub mod Metadata
pub mod Sealed
pub mod Unseal
pub mod States
pub mod Streams
