pub mod Prefix
pub mod Entering
pub mod Collapsed
