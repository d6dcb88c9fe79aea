pub mod Calm
pub mod Contents
pub mod Laws
pub mod MemState
pub mod MemView
pub mod Refusal
pub mod Table
