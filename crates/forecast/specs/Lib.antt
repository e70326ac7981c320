pub mod Count
pub mod Pass
pub mod Examples
pub mod Claims
