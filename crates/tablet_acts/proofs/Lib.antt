pub mod Beside
pub mod OtherSlot
