-- The words behind a program's name.
pub mod Words
