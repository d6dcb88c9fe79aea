mod GeometryLemmas
mod ItemLemmas
pub mod MeaningLemmas
mod NumberLemmas
mod SplitLemmas
mod ValueLemmas
