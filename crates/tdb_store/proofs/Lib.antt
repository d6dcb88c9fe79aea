pub mod ArmingLemmas
