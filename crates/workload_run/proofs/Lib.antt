mod Seconds
mod FilledRows
mod FourTables
mod Telling
mod RunSectionsFit
