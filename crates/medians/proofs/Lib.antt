pub mod Own
pub mod Taken
pub mod Costed
pub mod Stored
