pub mod Once
pub mod Holds
pub mod Network
pub mod State
pub mod Left
pub mod Stay
