pub mod Behinds
pub mod Digits
pub mod HyphenTexts
pub mod TextsLaid
