pub mod Calls
pub mod Fasta
pub mod Handed
pub mod Claims
pub mod Drawing
pub mod Drawn
pub mod Refusals
