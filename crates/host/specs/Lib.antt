pub mod Host
pub mod Adding
pub mod Claims
