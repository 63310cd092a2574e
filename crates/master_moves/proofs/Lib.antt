pub mod Works
pub mod Turning
pub mod Restorings
pub mod Clonings
