-- What the code's plan and its answers mean: the record of a plan, what each call hands back, and how long texts can get.
pub mod Lengths
pub mod Plan
pub mod Fields
pub mod Answers
pub mod Given
