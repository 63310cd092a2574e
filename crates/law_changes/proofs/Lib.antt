pub mod Namespaces
pub mod Schemas
pub mod Dropping
pub mod Creating
pub mod Changing
