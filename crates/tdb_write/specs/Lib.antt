pub mod Changes
pub mod Writing
pub mod Copying
pub mod Space
