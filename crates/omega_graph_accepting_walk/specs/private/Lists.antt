-- Lists that grow.
use Rattle.std.specs.Prelude.{◌≡◌, List, ◌++◌}

-- a list begins with another one, so that earlier items keep their places
abbrev pub Extends : {X : Type 0} → List X → List X → Type 0
Extends {X} before after = (more : List X) × (after ≡ before ++ more)
