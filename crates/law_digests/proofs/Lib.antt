pub mod Answered
mod Below
mod Issued
mod Lines
mod ReadBack
mod Sections
mod Sizes
mod Words
