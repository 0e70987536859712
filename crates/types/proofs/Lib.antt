pub mod State
pub mod Eight
