pub mod Dropped
pub mod Floors
pub mod Walk
pub mod Seated
