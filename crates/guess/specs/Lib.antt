-- The code's own: what a text says of the only word whose line it can begin with.
pub mod Guess
