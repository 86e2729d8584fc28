-- The answer of `check` for a stream of automata.
use Rattle.std.specs.Prelude.{◌≡◌, ℕ, List, codes}
use Rattle.omega_answers_stream.specs.Counting.{HasAutomata}

-- the answer of `check`: the text is that of a stream of so many automata, and `accepted` is written
pub record IsStreamCheckAnswer (text output : List ℕ) (automata : ℕ) : Type 0 where
  pub read : HasAutomata text automata
  pub written : output ≡ codes "accepted\n"
