pub mod Older
pub mod Items
pub mod Pass
pub mod Examples
pub mod Claims
