pub mod Adding
pub mod Canonical
pub mod Indexing
pub mod KeyOrder
pub mod Marks
pub mod Next
pub mod Placing
pub mod Walking
