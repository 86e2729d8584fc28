-- Which letters of a block edges answer, in the lanes of words, and which edges answer the letter of a lane.
use Rattle.std.specs.Prelude.{◌≡◌, ◌↔◌, ℕ, ◌+◌, ◌*◌, ◌^◌, ◌<◌, if◌then◌else◌}
use Rattle.std.specs.Prelude.{IsTrue, List, [], ◌∷◌, Some, length, slice_index}
use Rattle.omega_text.specs.Cases.{never, or_memory, or_task}
use Rattle.omega_text.specs.declared.refusal.Refusal.{Refusal}
use Rattle.omega_hoa_automaton.specs.Automaton.{BodyEdge, Description, edge_at}
use Rattle.omega_synth_controllers.specs.Controllers.{Answers}
use Rattle.omega_synth_game.specs.Answering.{IsLetterLabelFault, whole_label}
use Rattle.omega_synth_game.specs.private.Lanes.{is_set}
use Rattle.omega_synth_game.specs.Letters.{holds_in, letter_numbered}

-- in the lane of each letter over the inputs a word says whether the edge with a number answers the letter
abbrev pub IsEdgeWord : Description → List ℕ → List ℕ → ℕ → ℕ → ℕ → Type 0
IsEdgeWord a controlled inputs block number word =
    (lane : ℕ) → lane < 64 → block * 64 + lane < 2 ^ length inputs → IsTrue (is_set word lane)
    ↔ Answers a controlled number (holds_in (letter_numbered inputs (block * 64 + lane)))

-- the first edges, given by number, have such words
pub record AreEdgeWords (a : Description) (controlled inputs : List ℕ) (block : ℕ)
    (numbers : List ℕ) (end : ℕ) (words : List ℕ) : Type 0 where
  pub entries : length words ≡ end
  pub each : (index : ℕ) → index < end
      → IsEdgeWord a controlled inputs block (slice_index numbers index) (slice_index words index)

-- the numbers whose words have a lane set
abbrev pub set_in_lane : ℕ → List ℕ → List ℕ → List ℕ
set_in_lane lane [] words = []
set_in_lane lane (number ∷ numbers) [] = []
set_in_lane lane (number ∷ numbers) (word ∷ words) =
    if is_set word lane then number ∷ set_in_lane lane numbers words
    else set_in_lane lane numbers words

-- the edge cannot be judged in some letter, or want of memory
abbrev pub IsEdgeUnanswered : Description → List ℕ → ℕ → Refusal → Type 0
IsEdgeUnanswered a controlled number =
    or_task (λ fault. (letter : List ℕ) × (edge : BodyEdge) × (edge_at a number ≡ Some edge)
    × IsLetterLabelFault controlled letter (whole_label a number edge) fault) (or_memory never)
