pub mod Turning
pub mod Ending
pub mod Drawn
pub mod Beginning
pub mod Once
