pub mod AppendLemmas
pub mod AreaLemmas
pub mod RangeLemmas
pub mod ReadLemmas
pub mod ScanLemmas
pub mod LawLemmas
