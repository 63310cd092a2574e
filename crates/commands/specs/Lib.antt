pub mod NamedOps
pub mod Seen
pub mod Times
pub mod Scripts
