mod NameSets
mod Pages
