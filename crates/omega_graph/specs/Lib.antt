-- Graphs as lists of edges, what their edges reach, and the components of some of them.
-- Closed walks of graphs with marked edges, and the rules by which an accepting one is found or excluded.
pub mod Found
pub mod Graph
pub mod Reaching
pub mod Components
pub mod private
pub mod Walks
pub mod Marks
pub mod Rules
