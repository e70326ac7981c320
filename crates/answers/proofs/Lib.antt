pub mod Writing
pub mod Framing
pub mod ReadBack
pub mod OemLaws
