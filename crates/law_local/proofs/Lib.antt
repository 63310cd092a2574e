pub mod Agreement
pub mod Tablets
pub mod Reading
pub mod Judging
pub mod Commands
pub mod Operations
pub mod Removing
pub mod Local
