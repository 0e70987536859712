pub mod Turns
pub mod Stretch
pub mod Growing
pub mod Lines
pub mod TreeGrown
