pub mod AskedLemmas
pub mod Causes
pub mod EndLemmas
pub mod Endings
pub mod RefusalLines
pub mod RunLemmas
pub mod Untold
