pub mod Claimed
pub mod Fitting
pub mod OneMatrix
