-- The desk's calls in document 01's own words.
pub mod InWords
pub mod Blanks
