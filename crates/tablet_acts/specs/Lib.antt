pub mod Tellings
pub mod Seen
