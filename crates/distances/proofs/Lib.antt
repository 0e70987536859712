pub mod Area
pub mod Summed
pub mod Measured
