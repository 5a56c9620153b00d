-- What the runner prints: text, its lines, a drawn line, an export, the PSG.
pub mod Text
pub mod Lines
pub mod Paint
pub mod Dump
