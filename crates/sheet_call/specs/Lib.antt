-- The calls for programs in C and Rust.
pub mod Call
pub mod CallLaws
-- How far two labels grow.
pub mod Growing
pub mod GrowingLaws
