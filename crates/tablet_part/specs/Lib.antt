pub mod Seen
pub mod Views
pub mod Plans
pub mod Obeying
