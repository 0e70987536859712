pub mod Told
pub mod Once
pub mod Purging
pub mod Back
pub mod First
