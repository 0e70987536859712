pub mod Mismatches
pub mod Cached
