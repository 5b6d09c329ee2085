pub mod Repeats
pub mod Names
mod Cut
mod Lexed
mod Tokens
mod Literals
mod Numbers
mod Quoted
mod Values
mod ReadExpr
mod ReadTrees
mod ReadWhole
mod Gets
mod ReadParts
mod ReadRows
mod ReadSelects
mod Sizes
mod ReadTables
mod ReadCreates
mod ReadAlters
mod ReadStmts
mod LexStmts
mod Kept
mod Signs
mod KeptTokens
pub mod KeptExprs
mod KeptStmts
mod KeptTables
mod KeptAlters
mod KeptBodies
