-- What `check`, `show` and `canon` answer to streams of automata.
-- What contracts of reading streams cite, and in `private` what private contracts alone cite.
pub mod Canon
pub mod Check
pub mod Counting
pub mod Refusing
pub mod Show
pub mod ShowJson
pub mod Answer
pub mod Asking
pub mod Several
pub mod Telling
pub mod private
pub use Rattle.omega_hoa.specs.Stream
