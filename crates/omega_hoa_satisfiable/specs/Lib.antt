-- Labels that can be true, and those that are left undecided; in `private` what only private contracts cite.
pub mod Cubes
pub mod Laws
pub mod Limits
pub mod Literals
pub mod Satisfiable
pub mod Tables
pub mod Undecided
pub mod private
