-- How a text is read and what is written for it, as functions.
pub mod Reading
pub mod Output
