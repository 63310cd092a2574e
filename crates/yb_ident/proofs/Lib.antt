pub mod Numbers
pub mod SameKinds
pub mod Texts
