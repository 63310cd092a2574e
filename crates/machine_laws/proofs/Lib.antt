pub mod Slots
pub mod Laying
pub mod Stepping
pub mod Pasts
pub mod Lawful
pub mod Replays
pub mod Started
pub mod Stamps
