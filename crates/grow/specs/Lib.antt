-- How far two labels grow, asked with words.
pub mod Asked
pub mod AskedLaws
-- What is written.
pub mod Digits
pub mod Text
pub mod TextLaws
