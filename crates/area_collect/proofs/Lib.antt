pub mod CollectLemmas
pub mod CopyLemmas
pub mod EntryLemmas
pub mod KeptLemmas
pub mod MapLemmas
pub mod PayloadLemmas
pub mod StandLemmas
