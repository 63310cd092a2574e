pub mod Firsts
pub mod Empties
