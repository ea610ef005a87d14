pub mod Words
pub mod Opening
pub mod Failure
pub mod Schemes
pub mod Requesting
pub mod OfFoldable
pub mod OfRequests
pub mod Folding
