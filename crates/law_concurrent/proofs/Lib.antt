mod Agrees
pub mod Comes
mod DigestsBefore
mod Images
mod Meets
mod MeetsBehind
mod Orders
mod Real
pub mod Said
mod SameMeanings
mod SameTranscripts
mod Sessions
