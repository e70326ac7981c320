pub mod Packet
pub mod Reading
pub mod Room
pub mod Names
pub mod Oem
pub mod AnswerClaims
