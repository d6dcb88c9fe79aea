pub mod Checking
pub mod Formatting
pub mod Generating
pub mod Listing
pub mod Placing
pub mod Reading
pub mod Replaying
pub mod Surveying
