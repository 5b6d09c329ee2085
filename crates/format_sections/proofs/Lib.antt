mod Texts
mod Come
mod Reached
mod Laws
mod Sizes
mod Whole
