mod AddingLemmas
mod ArmingLemmas
mod RecoverLemmas
mod SettleLemmas
pub mod IteratingLemmas
pub mod TakenLemmas
