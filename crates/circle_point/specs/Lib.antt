pub mod Basis
pub mod Point
pub mod Projective
