pub mod Halving
pub mod KeyOrderLemmas
pub mod PlaceLemmas
pub mod ReaderLemmas
pub mod ChainLemmas
pub mod IndexLemmas
pub mod LetterLemmas
