-- What follows from the rules. First the laws of each page of rules/, under its name, with those of axes, directions and corners.
pub mod Corner
pub mod Label
pub mod Crowd
pub mod Choice
pub mod Answer
-- Choosing at a given side, and at the side found.
pub mod Given
-- How far two labels grow: the sides at which they meet are those that exceed it.
pub mod Growth
-- Labels meet exactly when they cover a point in common.
pub mod CommonPoint
-- The greatest side of labels is the supremum of the sides of closed squares.
pub mod Supremum
-- Of a site's uncrowded corners at most two have a label that meets another.
pub mod AtMostTwo
-- At sides greater than twice that of the answer by the usual way, every choice has two labels that meet.
pub mod FactorTwo
-- At sides greater than the one found above the spot, no choice of corners 1 and 2 keeps its labels apart.
pub mod ExactSide
-- A search for the first good choice that a checker can run, and a test of an answer by it.
pub mod PrunedSearch
pub mod CheckedAnswer
