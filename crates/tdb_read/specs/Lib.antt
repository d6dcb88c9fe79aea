pub mod Records
pub mod Views
pub mod States
pub mod Reads
pub mod Mounting
