pub mod Tables
pub mod RowLines
pub mod KeyEdges
pub mod Printable
pub mod LinesTold
