-- What several proofs share, and other crates cite: what holds of the sheet and the output for a list, and of its rivals.
pub mod Guaranteed
pub mod Rivals
