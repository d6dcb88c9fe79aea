mod LookupLemmas
pub mod Rounds
