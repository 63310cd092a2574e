pub mod Codes
pub mod Kept
pub mod Begins
pub mod Pruned
pub mod Cloned
