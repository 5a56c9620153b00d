-- What the page's proofs share, and laws of the record and of undo.
pub mod PageAnswers
pub mod Ways
pub mod HoldsAt
pub mod UndoLaws
