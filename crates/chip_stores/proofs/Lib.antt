pub mod AreaLemmas
pub mod ArmingLemmas
pub mod CallLemmas
pub mod ChipLemmas
pub mod HealingLemmas
pub mod MountingLemmas
pub mod NumberLemmas
pub mod PairLemmas
