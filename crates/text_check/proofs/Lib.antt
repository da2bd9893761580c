pub mod Lists
pub mod Keywords
pub mod Declared
pub mod NameTests
pub mod Grammar
pub mod LetterAndDigits
