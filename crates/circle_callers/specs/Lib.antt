pub mod Preset
pub mod Sums
pub mod Unlucky
