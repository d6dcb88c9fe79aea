pub mod CountLemmas
pub mod HistoryLemmas
pub mod KindLemmas
pub mod ReadLemmas
pub mod TurnLemmas
