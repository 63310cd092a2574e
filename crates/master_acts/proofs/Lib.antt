pub mod Allowed
pub mod Cloned
pub mod Making
pub mod Planned
pub mod Changing
pub mod Looking
