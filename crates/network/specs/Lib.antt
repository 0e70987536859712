pub mod Called
pub mod Drawn
