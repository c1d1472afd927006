-- The search for the first solution, freed of geometry.
pub mod Problem
pub mod Rows
pub mod State
pub mod Extend
pub mod Trial
pub mod Walk
pub mod Decided
