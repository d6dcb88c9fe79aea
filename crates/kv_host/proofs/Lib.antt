pub mod Find
pub mod Files
pub mod Sources
