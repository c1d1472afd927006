-- How far two labels grow, for any numbers.
pub mod Asked
pub mod AskedLaws
-- The known answers.
pub mod Known
