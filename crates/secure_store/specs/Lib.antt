pub mod Asked
pub mod Asking
pub mod Doubts
pub mod Facts
pub mod Lawful
pub mod Recover
pub mod SecureState
