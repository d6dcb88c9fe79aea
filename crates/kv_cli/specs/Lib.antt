pub mod Asked
pub mod Inputs
pub mod Outcomes
pub mod Refusals
pub mod Replays
pub mod Runs
