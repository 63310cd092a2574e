pub mod Views
pub mod Laid
pub mod Faults
pub mod Past
pub mod Core
pub mod Starts
