pub mod Circuit
pub mod SBox
pub mod Signals
pub mod Sliced
pub mod Transposed
pub mod Ctr
