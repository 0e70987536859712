pub mod Calls
pub mod Formed
pub mod Handed
pub mod Drawing
pub mod Refusals
