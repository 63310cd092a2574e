pub mod Courses
pub mod Texts
pub mod HistoryTexts
pub mod Running
