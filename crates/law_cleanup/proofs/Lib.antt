pub mod Leaving
pub mod Forgetting
pub mod Emptying
pub mod Removing
pub mod Discarding
pub mod Thinning
pub mod Snapshots
pub mod Pruning
