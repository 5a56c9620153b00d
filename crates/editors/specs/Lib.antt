-- 02, L9: two editors, and the table of who may write what.
pub mod Table
