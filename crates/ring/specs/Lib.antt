-- 02, L5: the undo record, as a list and as the ring that holds it.
pub mod Ring
