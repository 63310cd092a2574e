pub mod Works
pub mod Switches
pub mod Clonings
