-- What makes a list one that may be placed.
pub mod Ready
