pub mod Operand
pub mod Decimal
pub mod ReadBack
