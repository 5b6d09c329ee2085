mod Blanks
mod Cuts
mod Said
mod Grows
mod Utf8
mod Sessions
