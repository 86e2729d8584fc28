-- What `empty`, `trim`, `complement` and `contained` answer to streams of automata, and refuse; in `private` what
-- private contracts alone cite.
pub mod Complement
pub mod Contained
pub mod Empty
pub mod Items
pub mod Trim
