pub mod TranscriptText
