pub mod Feeds
pub mod Layouts
