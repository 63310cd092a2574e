pub mod Raising
pub mod Staying
pub mod Judged
pub mod Used
pub mod Pruned
