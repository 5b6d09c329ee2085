mod FromTaken
mod KnownTotals
mod Projections
mod RepeatedKeys
mod SortKeys
