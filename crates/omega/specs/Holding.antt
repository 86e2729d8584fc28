-- Which text a caller holds.
use Rattle.std.specs.Prelude.{◌≡◌, ℕ, List}
use Rattle.std.specs.Option.{MatchOption}
use Rattle.omega.specs.declared.text.Text.{Text}

-- there is a text, and these are its bytes
abbrev pub Holds : Text → List ℕ → Type 0
Holds text bytes = MatchOption text.kept ⊥ (λ v. v.items ≡ bytes)
