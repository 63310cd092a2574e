pub mod View
pub mod Free
pub mod Tables
pub mod Going
pub mod Cloning
pub mod Acts
pub mod Decisions
pub mod Answers
