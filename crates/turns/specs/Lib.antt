pub mod Settings
pub mod Turns
pub mod Ends
