pub mod Seen
pub mod Staying
pub mod Hidden
pub mod Cuts
