pub mod View
pub mod Slots
