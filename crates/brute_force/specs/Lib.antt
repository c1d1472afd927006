-- What the functions promise.
pub mod Sides
