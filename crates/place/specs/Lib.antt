-- Reading the input and writing the output of the placing program.
pub mod Input
pub mod InputLaws
pub mod Reply
pub mod ReplyLaws
pub mod Asked
pub mod AskedLaws
