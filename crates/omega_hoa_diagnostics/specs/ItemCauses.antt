-- The line that says that an automaton lacks the header item `controllable-AP:`.
use Rattle.std.specs.Prelude.{◌≡◌, if◌then◌else◌, ℕ, List, [], codes}
use Rattle.omega_hoa_automaton.specs.Automaton.{Description}
use Rattle.omega_synth_controllers.specs.Controllable.{has_item}
use Rattle.omega_hoa_diagnostics.specs.LinesOfTexts.{IsLineOfText}

-- the line for an automaton; there is none if it has the item
abbrev pub item_line : Description → List ℕ
item_line a = if has_item a then [] else codes "omega: the header has no controllable-AP:\n"

-- the line for a text
abbrev pub IsItemCause : (text line : List ℕ) → Type 0
IsItemCause = IsLineOfText (λ a line. line ≡ item_line a)
