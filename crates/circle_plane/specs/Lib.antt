pub mod CfftView
pub mod CircleEvaluations
pub mod Coefficients
pub mod Evaluated
pub mod Layers
pub mod PeriodicColumns
pub mod PeriodicRows
