-- Lists, sheets and calls: what a reader is asked to believe, definitions alone, in document 01's order, with what L1 and L2 of document 02
-- add to its pages.
pub mod Text
pub mod List
pub mod Sheet
pub mod Calls
pub mod Refusal
