-- The automata of controllers and of counter-strategies: what contracts cite; in `private` what private
-- contracts alone cite.
pub mod Reaching
pub mod Winner
pub mod private
