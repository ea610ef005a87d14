pub mod Accepted
pub mod Claimed
pub mod Honest
pub mod LowDegree
pub mod LowWords
pub mod Over
pub mod Rows
