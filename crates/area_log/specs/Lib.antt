pub mod Areas
pub mod Checked
pub mod Listing
pub mod Reading
