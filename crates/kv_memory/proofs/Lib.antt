pub mod EntryLemmas
pub mod GoingLemmas
pub mod IteratorMapLemmas
pub mod MemoryLemmas
pub mod SortedLemmas
pub mod WalkLemmas
