pub mod Periods
pub mod Seen
