pub mod Mixed
pub mod Place
pub mod Guesses
