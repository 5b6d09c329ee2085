mod Answering
mod Moved
mod Places
