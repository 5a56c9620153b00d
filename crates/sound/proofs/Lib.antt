-- What is proved of a line's sound beside the functions' contracts.
pub mod Laws
pub mod Muting
-- for the code's loop only
pub mod Worked
