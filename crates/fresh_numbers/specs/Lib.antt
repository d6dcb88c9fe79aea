pub mod Attacks
pub mod Histories
pub mod PutBacks
pub mod Replays
