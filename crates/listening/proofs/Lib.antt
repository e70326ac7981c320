pub mod Lining
pub mod Noting
pub mod Places
pub mod Cuts
pub mod Growing
pub mod Answering
pub mod Beside
pub mod Story
