-- Edges that are judged one by one.
use Rattle.std.specs.Prelude.{◌≡◌, ◌++◌, Bool, List}
use Rattle.omega_hoa_automaton.specs.Automaton.{BodyEdge}
use Rattle.omega_lang_runs.specs.Judging.{AreJudged}

-- `new` is `old` and then an entry for each edge
abbrev pub AddsJudged : List BodyEdge → (old new : List Bool) → Type 0
AddsJudged edges old new = (own : List Bool) × (new ≡ old ++ own) × AreJudged edges own
