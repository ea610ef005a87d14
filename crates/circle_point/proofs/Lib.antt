pub mod Bases
pub mod Multiples
pub mod Points
pub mod Projections
pub mod Selectors
