pub mod Aes
pub mod Words
pub mod Bits
