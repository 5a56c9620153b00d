-- The list that the forecast lends back, as a part of RAM; what undo takes back; how mended words play; and what calls promise over runs.
pub mod Part
pub mod Undo
pub mod Mend
pub mod Runs
