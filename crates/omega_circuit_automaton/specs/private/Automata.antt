-- Automata whose states are valuations of latches and whose edges are cuts.
use Rattle.std.specs.Prelude.{◌≡◌, ◌<◌, ℕ, Bool, true, List, [], ◌∷◌, length}
use Rattle.omega_hoa_acceptance.specs.Kind.{buchi_formula}
use Rattle.omega_hoa_automaton.specs.Automaton.{Description}
use Rattle.omega_lang_runs.specs.Lasso.{IsStep, label_of}
use Rattle.omega_lang_runs.specs.Words.{Allows}
use Rattle.omega_circuit.specs.Circuit.{CircuitValue}
use Rattle.omega_circuit.specs.Rounds.{first_latches}
use Rattle.omega_circuit_automaton.specs.Names.{proposition_names}
use Rattle.omega_circuit_automaton.specs.private.Cuts.{Cut, IsCutOf, fits, pattern_of, valuation_at}

-- at a letter an edge of the automaton is an edge of a state
pub record IsTaken (c : CircuitValue) (valuations : List (List Bool)) (from to : ℕ)
    (letter : ℕ → Bool) : Type 0 where
  pub cut : Cut
  pub right : IsCutOf c valuations (valuation_at valuations from) cut
  pub target : cut.target ≡ to
  pub holds : fits (pattern_of cut) letter ≡ true

-- an edge of the automaton answers a letter of the inputs
pub record IsMade (c : CircuitValue) (valuations : List (List Bool)) (a : Description) (from : ℕ)
    (letter : ℕ → Bool) : Type 0 where
  pub cut : Cut
  pub right : IsCutOf c valuations (valuation_at valuations from) cut
  pub fit : fits cut.cube letter ≡ true
  pub number : ℕ
  pub step : IsStep a from number cut.target
  pub allows : (full : ℕ → Bool) → fits (pattern_of cut) full ≡ true
      → Allows a number (label_of step.edge) full

-- an automaton is that of a circuit, with these valuations
pub record IsAutomatonOf (c : CircuitValue) (valuations : List (List Bool)) (a : Description) : Type 0 where
  pub some : 0 < length valuations
  pub start : valuation_at valuations 0 ≡ first_latches c
  pub starts : a.starts ≡ (0 ∷ []) ∷ []
  pub propositions : a.propositions ≡ proposition_names c
  pub acceptance : a.acceptance ≡ buchi_formula 0
  pub taken : (from number to : ℕ) (step : IsStep a from number to) (letter : ℕ → Bool)
      → from < length valuations → Allows a number (label_of step.edge) letter
      → IsTaken c valuations from to letter
  pub made : (from : ℕ) (letter : ℕ → Bool) → from < length valuations → IsMade c valuations a from letter
