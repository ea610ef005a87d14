pub mod Butterflies
pub mod Groups
pub mod Parts
pub mod Passes
pub mod Twiddles
