pub mod Cost
pub mod Guesses
pub mod Search
pub mod Swept
