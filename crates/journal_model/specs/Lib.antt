pub mod Seen
pub mod Back
