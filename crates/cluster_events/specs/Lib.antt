pub mod SeenActs
pub mod SeenStates
pub mod SeenReplies
