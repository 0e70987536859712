pub mod Placed
pub mod Digits
pub mod Word
pub mod Numeral
