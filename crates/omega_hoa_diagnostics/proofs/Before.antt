-- The number of the first edge of a state, one state of the body at a time.
use Rattle.std.proofs.Common.{◌≡◌, ◌==◌, ℕ, suc, ◌+◌, ◌<◌, ◌≤◌, Bool, true, false, if◌then◌else◌, List, [], ◌∷◌, length, drop, get_or, refl, sym, ap, ◌∙◌, arith, add-one, eqb-true, eq-eqb, length-append}
use Rattle.std.proofs.Math.Seq.{drop-cons}
use Rattle.std.specs.List.{flat_map}
use Rattle.std.proofs.lemmas.Grind.{common_steps}
use Rattle.std.proofs.lemmas.List.{length-map}
use Rattle.omega_hoa_automaton.specs.Automaton.{BodyEdge, Description, edge_count, edges_from}
use Rattle.omega_hoa_automaton.specs.declared.edge.Edge.{Edge}
use Rattle.omega_hoa_automaton.specs.declared.state.State.{State}
use Rattle.omega_hoa_edges.specs.AutomatonLabels.{labels_at, labels_of, state_among, state_at, undefined}
use Rattle.omega_hoa_automaton.specs.Automaton.{edges_before}

-- the states before an index have another number, and so many edges
pub record IsBefore (a : Description) (number at before : ℕ) : Type 0 where
  pub among : state_among (drop at a.defined) number ≡ state_at a number
  pub numbered : before + edges_before (drop at a.defined) number ≡ edges_before a.defined number
  pub total : before + length (flat_map edges_from (drop at a.defined)) ≡ edge_count a

-- before the first state there are none
pub begun : (a : Description) (number : ℕ) → IsBefore a number 0 0
begun a number = record { among = refl; numbered = omega arith; total = omega arith }

drop_here : (states : List State) (at : ℕ) (state : State) → at < length states → state ≡ get_or states at state → drop at states ≡ state ∷ drop (at + 1) states
drop_here states at state below here =
    drop-cons states at state below ∙ ap (λ (s : State). s ∷ drop (suc at) states) (sym here) ∙ ap (λ (n : ℕ). state ∷ drop n states) (sym (add-one at))

none_left : (states : List State) (at : ℕ) → length states ≤ at → drop at states ≡ []
none_left states at past = grind (arith, common_steps)

unequal : (m n : ℕ) → (m ≡ n → ⊥) → (m == n) ≡ false
unequal m n other = go (m == n) refl
  where
    go : (b : Bool) → (m == n) ≡ b → b ≡ false
    go true same = absurd (other (eqb-true m n same))
    go false same = refl

module _ (a : Description) (number at before : ℕ) (state : State) (below : at < length a.defined) (here : state ≡ get_or a.defined at state)
    (so_far : IsBefore a number at before) where
  next : drop at a.defined ≡ state ∷ drop (at + 1) a.defined
  next = drop_here a.defined at state below here

  flat : length (flat_map edges_from (drop at a.defined)) ≡ length state.edges + length (flat_map edges_from (drop (at + 1) a.defined))
  flat =
      let edges = length-map {B = BodyEdge} state.edges (λ (e : Edge). record { source = state; edge = e }) in
      ap (λ (states : List State). length (flat_map edges_from states)) next
      ∙ omega (arith, length-append (edges_from state) (flat_map edges_from (drop (at + 1) a.defined)), edges)

  -- with the edges of one more there are at most all
  pub within : before + length state.edges ≤ edge_count a
  within = omega (arith, so_far.total, flat)

  -- that state has another number
  pub passed : (state.number ≡ number → ⊥) → IsBefore a number (at + 1) (before + length state.edges)
  passed other =
      let e : (state.number == number) ≡ false = unequal state.number number other in
      let rest : edges_before (drop at a.defined) number ≡ length state.edges + edges_before (drop (at + 1) a.defined) number =
      ap (λ (states : List State). edges_before states number) next
      ∙ ap (λ (b : Bool). if b then 0 else length state.edges + edges_before (drop (at + 1) a.defined) number) e in
      record {
        among = sym (ap (λ (b : Bool). if b then state else state_among (drop (at + 1) a.defined) number) e)
            ∙ sym (ap (λ (states : List State). state_among states number) next) ∙ so_far.among;
        numbered = omega (arith, rest, so_far.numbered);
        total = omega (arith, flat, so_far.total);
      }

  -- that state has the number
  pub found : state.number ≡ number → (state ≡ state_at a number) × (before ≡ edges_before a.defined number)
  found same =
      let e : (state.number == number) ≡ true = eq-eqb state.number number same in
      let is : state ≡ state_at a number =
      sym (ap (λ (states : List State). state_among states number) next
      ∙ ap (λ (b : Bool). if b then state else state_among (drop (at + 1) a.defined) number) e) ∙ so_far.among in
      let none : edges_before (drop at a.defined) number ≡ 0 =
      ap (λ (states : List State). edges_before states number) next
      ∙ ap (λ (b : Bool). if b then 0 else length state.edges + edges_before (drop (at + 1) a.defined) number) e in
      (is, omega (arith, none, so_far.numbered))

-- no state of the body has the number
pub undefined_there : (a : Description) (number at before : ℕ) → length a.defined ≤ at → IsBefore a number at before → labels_at a number ≡ []
undefined_there a number at before past so_far =
    let is : state_at a number ≡ undefined number =
    sym so_far.among ∙ ap (λ (states : List State). state_among states number) (none_left a.defined at past) in
    ap (λ (s : State). labels_of (length a.propositions) s) is
