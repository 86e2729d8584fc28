-- What an automaton keeps of an edge of a number: its state, its targets and its marks.
use Rattle.std.proofs.Common.{◌≡◌, ℕ, zero, suc, ◌<◌, List, [], ◌∷◌, Contains, Option, Some, None, sym, ap, refl, subst, arith}
use Rattle.std.specs.Prelude.{slice_get, option_map}
use Rattle.std.specs.Option.{unwrap_or}
use Rattle.std.proofs.lemmas.List.Elements.{All-append, All-nil}
use Rattle.omega_hoa_automaton.specs.Automaton.{AreBelow, BodyEdge, Description, IsAutomaton, IsEdge, IsState, edge_at, edges_of}
use Rattle.omega_hoa_automaton.specs.declared.edge.Edge.{Edge}
use Rattle.omega_hoa_automaton.specs.declared.state.State.{State}
use Rattle.omega_lang_runs.specs.Lasso.{marks_at, marks_of}
use Rattle.omega_lang_runs.proofs.Flat.{IsListed, listed_flat}

-- an edge of a number is one of the body
contains_get : (edges : List BodyEdge) (k : ℕ) (edge : BodyEdge) → slice_get edges k ≡ Some edge → Contains edges edge
contains_get [] zero edge here = absurd (none here)
  where
    none : slice_get [] zero ≡ Some edge → ⊥
    none e = cc
contains_get [] (suc k) edge here = absurd (none here)
  where
    none : slice_get [] (suc k) ≡ Some edge → ⊥
    none e = cc
contains_get (x ∷ xs) zero edge here = (0, omega arith, some_same x edge here)
  where
    some_same : (x y : BodyEdge) → Some x ≡ Some y → x ≡ y
    some_same x y e = cc
contains_get (x ∷ xs) (suc k) edge here = let rest = contains_get xs k edge here in (suc rest.0, omega (arith, rest.1), rest.2)

-- what an automaton keeps of an edge of a number
pub edge_kept : (a : Description) → IsAutomaton a → (number : ℕ) (edge : BodyEdge) → edge_at a number ≡ Some edge → IsState a edge.source × IsEdge a edge.edge
edge_kept a automaton number edge here =
    let from : IsListed a.defined edge = listed_flat a.defined edge (contains_get (edges_of a) number edge here) in
    let P : State → Type 0 = λ s. IsState a s in
    let state : IsState a edge.source = subst P (sym from.here) (automaton.states from.place edge.source from.below) in
    let Q : Edge → Type 0 = λ e. IsEdge a e in
    (state, subst Q from.contained.2 (state.edges from.contained.0 edge.edge from.contained.1))

-- the marks of an edge of a number
pub marks_are : (a : Description) (number : ℕ) (edge : BodyEdge) → edge_at a number ≡ Some edge → marks_at a number ≡ marks_of edge
marks_are a number edge here = ap (λ (found : Option BodyEdge). unwrap_or (option_map marks_of found) []) here

-- they are below the count of sets
pub marks_low : (a : Description) → IsAutomaton a → (number : ℕ) → AreBelow a.sets (marks_at a number)
marks_low a automaton number = go (edge_at a number) refl
  where
    go : (found : Option BodyEdge) → edge_at a number ≡ found → AreBelow a.sets (unwrap_or (option_map marks_of found) [])
    go None here = All-nil (λ mark. mark < a.sets)
    go (Some edge) here =
        let kept = edge_kept a automaton number edge here in
        All-append (λ mark. mark < a.sets) edge.source.marks edge.edge.marks kept.0.marks.below kept.1.marks.below
