pub mod Asking
pub mod Lone
pub mod Runs
pub mod Shown
pub mod Stops
