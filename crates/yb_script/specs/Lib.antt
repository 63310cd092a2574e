pub mod Called
pub mod Endings
pub mod Lawful
