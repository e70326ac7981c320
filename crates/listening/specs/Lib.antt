pub mod Table
pub mod Lines
pub mod Pieces
pub mod Listen
pub mod Claims
