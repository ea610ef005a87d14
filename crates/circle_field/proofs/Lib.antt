pub mod Inverses
pub mod Powers
pub mod Mersenne31Chain
mod CubicProducts
pub mod Halves
pub mod Sums
