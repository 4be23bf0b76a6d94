pub mod Replies
pub mod ReplyParts
pub mod Carried
