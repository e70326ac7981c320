pub mod Ranges
pub mod Peak
pub mod Newton
pub mod Division
pub mod Exact
pub mod Guards
pub mod Cases
pub mod Claims
