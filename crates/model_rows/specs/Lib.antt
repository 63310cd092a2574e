pub mod Computed
pub mod FirstRead
pub mod Runs
pub mod Scripts
pub mod Turns
pub mod ScriptLines
pub mod UndoneRestore
