mod Checked
mod Depth
mod Given
mod Proved
mod Refused
pub mod Told
mod Verified
