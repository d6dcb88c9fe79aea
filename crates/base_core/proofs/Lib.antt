pub mod CountLemmas
pub mod UnitLemmas
