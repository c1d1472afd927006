-- Lists, plans and sheets: the rules, how a text is read by them, what the calls hand back, the demands, what follows, and what the code
-- says of its arrays. Each folder uses only those above it.
pub mod rules
pub mod deciding
pub mod calls
pub mod Demands
pub mod theorems
pub mod code
