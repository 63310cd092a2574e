pub mod Founds
pub mod Decided
pub mod Draws
pub mod Lines
