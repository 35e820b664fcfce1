mod Dates
mod Fair
mod Gives
mod Trees
mod Expressions
mod Queries
