-- A state that has an edge for each valuation and no labels: its edges are apart.
use Rattle.std.proofs.Common.{◌≡◌, ℕ, zero, suc, ◌<◌, ◌^◌, Bool, true, false, ◌||◌, List, [], ◌∷◌, slice_get, Some, None, refl, sym, ap, subst, ◌∙◌, arith}
use Rattle.std.specs.List.{list_any}
use Rattle.std.proofs.lemmas.Option.{slice_get_within}
use Rattle.omega_hoa_label.specs.Label.{LabelTree, truth}
use Rattle.omega_hoa_automaton.specs.declared.state.State.{State}
use Rattle.omega_hoa_edges.specs.AutomatonLabels.{labels_of}
use Rattle.omega_hoa_edges.specs.Letters.{AreExclusive}
use Rattle.omega_hoa_edges.proofs.FullStates.{IsFull, edge_label, full_parts}
use Rattle.omega_hoa_edges.proofs.Bits.{and_parts, one_index}
use Rattle.omega_hoa_edges.proofs.Rows.{each_at}
use Rattle.omega_hoa_edges.specs.Labels.{is_full, label_at, valuation_label}

pub any_at : {X : Type 0} (p : X → Bool) (xs : List X) (k : ℕ) (x : X) → slice_get xs k ≡ Some x → p x ≡ true → list_any p xs ≡ true
any_at p [] k x e passes = absurd (never e)
  where
    never : None ≡ Some x → ⊥
    never f = cc
any_at p (y ∷ ys) zero x e passes = ap (λ b. b || list_any p ys) (ap p (same e) ∙ passes) ∙ refl
  where
    same : Some y ≡ Some x → y ≡ x
    same f = cc
any_at p (y ∷ ys) (suc k) x e passes = either (p y) (list_any p ys) (any_at p ys k x e passes)
  where
    either : (a b : Bool) → b ≡ true → (a || b) ≡ true
    either true b f = refl
    either false b f = f

label_there : (count : ℕ) (state : State) (k : ℕ) (label : LabelTree) → IsFull count state → slice_get (labels_of count state) k ≡ Some label
    → (k < 2 ^ count) × (label ≡ valuation_label k count)
label_there count state k label full e =
    let found = each_at (label_at count state) state.edges k label e in
    (subst (λ n. k < n) full.many (slice_get_within state.edges k found.0 found.1.0), found.1.1 ∙ edge_label count state k found.0 full found.1.0)

pub full_apart : (count : ℕ) (state : State) → is_full count state ≡ true → AreExclusive (labels_of count state)
full_apart count state is (one, (other, pair, (held, both))) =
    let full : IsFull count state = full_parts count state is in
    let first = label_there count state pair.first one full pair.first_is in
    let second = label_there count state pair.second other full pair.second_is in
    let parts = and_parts (truth held one) (truth held other) both in
    let same : pair.first ≡ pair.second =
    one_index held count pair.first pair.second first.0 second.0 (ap (truth held) (sym first.1) ∙ parts.0) (ap (truth held) (sym second.1) ∙ parts.1) in
    omega (arith, pair.in_order, same)
