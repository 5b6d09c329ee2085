mod CellsThere
mod Committed
mod Forms
mod GoesOn
mod Starts
mod Told
mod Transcripts
mod Words
