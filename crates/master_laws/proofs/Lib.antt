pub mod Homes
pub mod Targets
pub mod Places
pub mod Lawful
pub mod Singles
pub mod Pointing
