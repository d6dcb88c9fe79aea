pub mod Reader
pub mod Table
pub mod Find
pub mod Letters
