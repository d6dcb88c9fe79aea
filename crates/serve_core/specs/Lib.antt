pub mod Clients
pub mod Owning
pub mod Serving
