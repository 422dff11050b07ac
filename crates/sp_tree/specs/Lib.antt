pub mod Children
pub mod Node
pub mod Nodes
pub mod Path
pub mod Tree
