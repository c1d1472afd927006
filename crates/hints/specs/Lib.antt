-- Hints for refused lines: which line has which, that no accepted line has one, and what the proofs of the functions use.
pub mod Hint
pub mod Explained
pub mod ExplainedLaws
pub mod HintLaws
pub mod TestLaws
