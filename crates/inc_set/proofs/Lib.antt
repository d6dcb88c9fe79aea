pub mod AscendLemmas
pub mod FeedLemmas
pub mod FedLemmas
pub mod PlaceLemmas
pub mod PushLemmas
pub mod SealLemmas
pub mod SetLemmas
pub mod UnitLemmas
