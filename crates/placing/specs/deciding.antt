-- What decides the rules, and the answer by plain search.
pub mod Decides
-- How far two labels grow.
pub mod Growth
-- A test that computes for each rule.
pub mod Tests
-- Lists of corners in their order, up to the first that passes a test.
pub mod Enumerate
-- The answer by that search.
pub mod Answer
