pub mod Digraph
pub mod Walks
pub mod Cores
pub mod DigraphOf
pub mod Arcs
pub mod Sides
pub mod Orders
pub mod Marks
