pub mod Seen
pub mod Layout
