pub mod Causes
pub mod Indexed
pub mod KeyOrder
pub mod Next
pub mod Rows
pub mod Tried
