pub mod Calls
pub mod Every
pub mod Pairs
pub mod Replies
pub mod Statuses
