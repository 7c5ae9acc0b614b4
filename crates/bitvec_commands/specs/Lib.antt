pub mod Commands
pub mod CommandsLaws
pub mod Costs
pub mod Follows
pub mod FollowsLaws
pub mod Groups
pub mod Rows
