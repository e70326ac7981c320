pub mod Ranges
pub mod Peak
pub mod Ramp
pub mod Claims
