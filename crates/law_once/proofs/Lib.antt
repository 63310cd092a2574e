pub mod States
pub mod Entered
pub mod Made
pub mod Kept
pub mod Given
