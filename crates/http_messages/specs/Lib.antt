pub mod Fields
pub mod Frames
pub mod RequestHeads
pub mod Lines
pub mod Statuses
pub mod inner
pub mod ReplyHeads
pub mod Replies
