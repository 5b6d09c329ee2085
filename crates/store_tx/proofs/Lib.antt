mod OpenSavepoints
pub mod Leaves
mod Marks
mod ReadOnly
mod Represented
mod RootsMade
mod Sorting
mod Trees
