pub mod Cutting
pub mod Counting
pub mod Parents
pub mod Slots
pub mod Masters
pub mod Splitting
