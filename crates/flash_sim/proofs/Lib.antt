pub mod ChipLaws
pub mod MixLaws
pub mod PlanLaws
