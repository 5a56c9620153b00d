-- What leaves through the C interface in another form than inside, the line report and the forecast's list; what undo, start, mend, mute,
-- placing and removing promise over runs of calls; and what the library tells of itself.
pub mod Report
pub mod Promises
pub mod Undo
pub mod Start
pub mod Mend
pub mod Lists
pub mod Mute
pub mod Built
