pub mod Answers
pub mod Sound
pub mod Steps
pub mod NewDesk
pub mod OwnNumbers
pub mod InWords
pub mod Lasting
pub mod Blanks
