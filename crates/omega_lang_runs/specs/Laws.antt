-- Laws of verdicts, and of the labels at which edges can be taken.
use Rattle.std.specs.Prelude.{◌≡◌, ◌↔◌, ℕ, Bool, false, IsTrue, List, length, Some}
use Rattle.std.specs.Option.{unwrap_or}
use Rattle.omega_hoa_label.specs.Label.{LabelTree, truth}
use Rattle.omega_hoa_automaton.specs.Automaton.{BodyEdge, Description, edge_at}
use Rattle.omega_hoa_automaton.specs.Branching.{has_universal_branching}
use Rattle.omega_lang_runs.specs.Lasso.{label_of}
use Rattle.omega_lang_runs.specs.Verdict.{IsVerdict}
use Rattle.omega_lang_runs.specs.Words.{CanBeTaken, IsAccepted, IsValuation, index_in}
use Rattle.omega_lang_runs.specs.declared.verdict.Verdict.{Verdict}
use Rattle.omega_lang_runs.specs.declared.verdict.Verdict.TheVariants.{Empty}

-- two verdicts on an automaton never contradict: if one is `Empty`, so is the other
abbrev pub VerdictsAgree : Type 0
VerdictsAgree =
    (a : Description) (one other : Verdict)
    → IsVerdict a one → IsVerdict a other → (one ≡ Empty) ↔ (other ≡ Empty)

-- an automaton without universal branching on which the verdict is `Empty` accepts no word
abbrev pub EmptyAcceptsNoWord : Type 0
EmptyAcceptsNoWord =
    (a : Description) (word : ℕ → ℕ → Bool)
    → has_universal_branching a ≡ false → IsVerdict a Empty → ¬ IsAccepted a word

-- a label is true at exactly one valuation of the automaton's propositions: that of the edge's index within its state
abbrev pub IsIndexLabel : Description → ℕ → LabelTree → Type 0
IsIndexLabel a number label = (held : ℕ → Bool)
    → IsTrue (truth held label) ↔ IsValuation (length a.propositions) (index_in a.defined number) held

-- an edge can be taken exactly if its label is true: that of its state, or else its own, or else a label of its index
abbrev pub EdgesAreTakenWhereTrue : Type 0
EdgesAreTakenWhereTrue =
    (a : Description) (number : ℕ) (edge : BodyEdge) (index_label : LabelTree) (held : ℕ → Bool)
    → edge_at a number ≡ Some edge → IsIndexLabel a number index_label
    → CanBeTaken a number held ↔ IsTrue (truth held (unwrap_or (label_of edge) index_label))
