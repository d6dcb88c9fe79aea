pub mod CtrText
pub mod Chain
pub mod CounterBytes
