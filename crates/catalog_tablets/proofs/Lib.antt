pub mod Active
pub mod Counted
pub mod Freeing
pub mod Filtered
pub mod Rising
