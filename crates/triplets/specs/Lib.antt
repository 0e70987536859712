pub mod Followers
pub mod Triplet
pub mod Mismatches
pub mod Settled
