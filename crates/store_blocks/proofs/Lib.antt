mod Closing
mod Places
