mod Behind
mod Begins
mod Drawn
mod Fitting
mod Goes
mod Openings
mod OneSession
pub mod Tellings
mod Tells
