pub mod HexDigits
pub mod Grammar
pub mod LineOrder
pub mod Parts
pub mod Reading
pub mod Spelled
pub mod SplitRest
