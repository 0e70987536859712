pub mod Sweeping
pub mod Taking
pub mod Considering
