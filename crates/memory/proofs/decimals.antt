pub mod Decimal
pub mod Upto
