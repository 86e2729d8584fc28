-- The refusal of `check`, `show` and `canon` for a stream of automata.
use Rattle.std.specs.Prelude.{ℕ, List, Option}
use Rattle.omega_text.specs.Cases.{or_io, or_memory}
use Rattle.omega_text.specs.declared.refusal.Refusal.{Refusal}
use Rattle.omega_hoa.specs.Stream.{IsStreamRefusal}
use Rattle.omega_io.specs.Reading.{ReadsText}

-- the refusal of the text that an input gave, or a failed read, or want of memory
abbrev pub RefusesStream : (before after : Option (List ℕ)) → Refusal → Type 0
RefusesStream before after =
    or_memory (or_io (λ refusal. ReadsText before after (λ text. IsStreamRefusal text refusal)))
