mod Before
mod BehindPast
mod Bound
mod Saved
mod Shown
