-- Propositions that a letter leaves open, by the labels of the automaton of a word.
use Rattle.std.specs.Prelude.{◌≡◌, ◌⊎◌, ℕ, true, false, List, [], ◌∷◌, Contains, Option, None, Some}
use Rattle.omega_hoa_automaton.specs.Automaton.{Description}
use Rattle.omega_hoa_automaton.specs.declared.edge.Edge.{Edge}
use Rattle.omega_hoa_automaton.specs.declared.state.State.{State}
use Rattle.omega_hoa_edges.specs.Fitting.{IsUnjudged}
use Rattle.omega_hoa_label.specs.Label.{LabelTree, conjunction}
use Rattle.omega_hoa_satisfiable.specs.Satisfiable.{IsSatisfiable}
use Rattle.omega_text.specs.declared.refusal.Refusal.{Refusal}
use Rattle.omega_text.specs.declared.refusal.Refusal.TheVariants.{Memory}
use Rattle.omega_lang_inclusion.specs.Opening.{literal_of, place_among}

-- the label of the first edge of a state, if there is one
abbrev pub first_label : List Edge → Option LabelTree
first_label [] = None
first_label (edge ∷ edges) = edge.label

-- there is a label, and it can be true with the one literal and with the other
abbrev pub CanBeBoth : (held unheld : LabelTree) → Option LabelTree → Type 0
CanBeBoth held unheld None = ⊥
CanBeBoth held unheld (Some label) =
    IsSatisfiable (conjunction label held) × IsSatisfiable (conjunction label unheld)

-- the label of the first edge of some state can
abbrev pub HasOpenState : (held unheld : LabelTree) → List State → Type 0
HasOpenState held unheld states =
    (state : State) × Contains states state × CanBeBoth held unheld (first_label state.edges)

-- the label of a state of the automaton of a word can be true with the proposition of this name, and without it
abbrev pub IsOpenName : Description → List ℕ → Type 0
IsOpenName one name =
    let number = place_among one.propositions name in
    HasOpenState (literal_of number true) (literal_of number false) one.defined

-- so it is with one of some names
abbrev pub HasOpenName : Description → List (List ℕ) → Type 0
HasOpenName one names = (name : List ℕ) × Contains names name × IsOpenName one name

-- there is a label, and it is not judged together with one of two literals
abbrev pub IsUnjudgedWith : (held unheld : LabelTree) → Option LabelTree → Refusal → Type 0
IsUnjudgedWith held unheld None refusal = ⊥
IsUnjudgedWith held unheld (Some label) refusal =
    IsUnjudged (conjunction label held) refusal ⊎ IsUnjudged (conjunction label unheld) refusal

-- the label of the first edge of some state is not judged
abbrev pub HasUnjudgedState : (held unheld : LabelTree) → List State → Refusal → Type 0
HasUnjudgedState held unheld states refusal = (state : State) × Contains states state
    × IsUnjudgedWith held unheld (first_label state.edges) refusal

-- it is not judged whether a label can be true with the proposition of this name, or without it; or memory is wanting
abbrev pub IsUnjudgedName : Description → List ℕ → Refusal → Type 0
IsUnjudgedName one name refusal =
    let number = place_among one.propositions name in (refusal ≡ Memory)
    ⊎ HasUnjudgedState (literal_of number true) (literal_of number false) one.defined refusal

-- so it is with one of some names
abbrev pub IsNameRefusal : Description → List (List ℕ) → Refusal → Type 0
IsNameRefusal one names refusal =
    (name : List ℕ) × Contains names name × IsUnjudgedName one name refusal
