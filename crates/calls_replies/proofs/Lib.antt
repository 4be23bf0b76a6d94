pub mod NumberTexts
