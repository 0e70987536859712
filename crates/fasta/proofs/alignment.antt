pub mod Faults
pub mod Joined
pub mod Counted
pub mod Readable
pub mod Answered
pub mod Sizes
