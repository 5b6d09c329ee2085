mod Onward
mod Roots
mod Rules
mod Steps
