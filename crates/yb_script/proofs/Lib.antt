pub mod Doing
pub mod Counting
