mod Edits
mod Packed
mod Carried
mod Filled
mod Halving
