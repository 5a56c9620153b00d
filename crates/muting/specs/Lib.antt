-- 02, L13: a mute mark moves nothing but the PSG.
pub mod Muting
