-- Laws of a list that is copied out of RAM, and of a line that is shown.
pub mod Placing
pub mod Shown
