-- That a mute mark moves nothing but the PSG.
pub mod Alike
pub mod Calls
pub mod Claim
pub mod Exist
