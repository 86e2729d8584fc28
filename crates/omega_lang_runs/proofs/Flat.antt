-- The edges of all states, and the labels that are among them.
use Rattle.std.proofs.Common.{◌≡◌, ℕ, zero, suc, ◌<◌, ◌≤◌, inl, inr, List, [], ◌∷◌, ◌++◌, length, map, get_or, Contains, Option, Some, sym, ap, subst, arith}
use Rattle.std.specs.List.{flat_map}
use Rattle.std.proofs.lemmas.List.Elements.{Contains-append_cases, Contains-append_left, Contains-append_right}
use Rattle.omega_text.specs.declared.refusal.Refusal.{Refusal}
use Rattle.omega_text.specs.declared.refusal.Refusal.TheVariants.{Automaton, Circuit, Game, Io, Memory, Task, Text}
use Rattle.omega_hoa_label.specs.Label.{LabelTree}
use Rattle.omega_hoa_expression.specs.Limits.{most_mentioned}
use Rattle.omega_hoa_satisfiable.specs.Satisfiable.{mentioned}
use Rattle.omega_hoa_satisfiable.specs.Undecided.{IsHardLabel}
use Rattle.omega_hoa_automaton.specs.Automaton.{BodyEdge, Description, edges_from}
use Rattle.omega_hoa_automaton.specs.declared.edge.Edge.{Edge}
use Rattle.omega_hoa_automaton.specs.declared.state.State.{State}
use Rattle.omega_lang_runs.specs.Judging.{GivesUpOn, HasHard, HasHardLabel, HasLabelWith, HasNarrow, HasNarrowLabels, HasWide, HasWideLabel, IsLabelIn, IsNarrowLabel, IsWideLabel}

-- an edge that a state lists, as an edge of the body
contains_from : (state : State) (edges : List Edge) (k : ℕ) (edge : Edge) → k < length edges → edge ≡ get_or edges k edge
    → Contains (map {B = BodyEdge} (λ (e : Edge). record { source = state; edge = e }) edges) (record { source = state; edge = edge })
contains_from state [] k edge below here = absurd (omega arith)
contains_from state (x ∷ xs) zero edge below here = (0, omega arith, ap (λ (e : Edge). record { source = state; edge = e }) (sym here))
contains_from state (x ∷ xs) (suc k) edge below here =
    let rest = contains_from state xs k edge (omega arith) here in (suc rest.0, omega (arith, rest.1), rest.2)

pub contains_flat : (states : List State) (k : ℕ) (state : State) (edge : Edge) → k < length states → state ≡ get_or states k state
    → Contains state.edges edge → Contains (flat_map edges_from states) (record { source = state; edge = edge })
contains_flat [] k state edge below here has = absurd (omega arith)
contains_flat (x ∷ xs) zero state edge below here has =
    let P : State → Type 0 = λ s. Contains (edges_from s ++ flat_map edges_from xs) (record { source = state; edge = edge }) in
    subst P here (Contains-append_left (edges_from state) (flat_map edges_from xs) (record { source = state; edge = edge })
    (contains_from state state.edges has.0 edge has.1 (sym has.2)))
contains_flat (x ∷ xs) (suc k) state edge below here has =
    Contains-append_right (edges_from x) (flat_map edges_from xs) (record { source = state; edge = edge }) (contains_flat xs k state edge (omega arith) here has)

-- and an edge of the body is one that a state lists
pub record IsListed (states : List State) (edge : BodyEdge) : Type 0 where
  pub place : ℕ
  pub below : place < length states
  pub here : edge.source ≡ get_or states place edge.source
  pub contained : Contains edge.source.edges edge.edge

listed_from : (state : State) (edges : List Edge) (edge : BodyEdge) (k : ℕ) → k < length (map {B = BodyEdge} (λ (e : Edge). record { source = state; edge = e }) edges)
    → get_or (map {B = BodyEdge} (λ (e : Edge). record { source = state; edge = e }) edges) k edge ≡ edge → (edge.source ≡ state) × Contains edges edge.edge
listed_from state [] edge k below here = absurd (omega arith)
listed_from state (x ∷ xs) edge zero below here = (ap (λ (e : BodyEdge). e.source) (sym here), (0, omega arith, ap (λ (e : BodyEdge). e.edge) here))
listed_from state (x ∷ xs) edge (suc k) below here =
    let rest = listed_from state xs edge k (omega arith) here in (rest.0, (suc rest.1.0, omega (arith, rest.1.1), rest.1.2))

pub listed_flat : (states : List State) (edge : BodyEdge) → Contains (flat_map edges_from states) edge → IsListed states edge
listed_flat [] edge has = absurd (omega (arith, has.1))
listed_flat (x ∷ xs) edge has = elim (Contains-append_cases (edges_from x) (flat_map edges_from xs) edge has) [
  | inl first ↦
      let from = listed_from x x.edges edge first.0 first.1 first.2 in
      let P : State → Type 0 = λ s. Contains s.edges edge.edge in
      record { place = 0; below = omega arith; here = from.0; contained = subst P (sym from.0) from.1 }
  | inr later ↦
      let rest : IsListed xs edge = listed_flat xs edge later in
      record { place = suc rest.place; below = omega (arith, rest.below); here = rest.here; contained = rest.contained }
]

-- a label of a state or of its edges is one of the automaton
label_of_state : (Has : LabelTree → Type 0) (a : Description) (k : ℕ) (state : State) → k < length a.defined → state ≡ get_or a.defined k state
    → HasLabelWith Has state → (label : LabelTree) × IsLabelIn a label × Has label
label_of_state Has a k state below here (inl own) = (own.0, inl (state, (k, below, sym here), own.1), own.2)
label_of_state Has a k state below here (inr (edge, contained, with)) =
    (with.0, inr (record { source = state; edge = edge }, contains_flat a.defined k state edge below here contained, with.1), with.2)

pub wide_label : (a : Description) (k : ℕ) (state : State) → k < length a.defined → state ≡ get_or a.defined k state → HasWide state → HasWideLabel a
wide_label = label_of_state IsWideLabel

pub hard_label : (a : Description) (k : ℕ) (state : State) → k < length a.defined → state ≡ get_or a.defined k state → HasHard state → HasHardLabel a
hard_label = label_of_state IsHardLabel

-- a refusal for one is a refusal for the other
pub wide_refused : (P Q : Type 0) → (P → Q) → (e : Refusal) → GivesUpOn P e → GivesUpOn Q e
wide_refused P Q gives (Text fault) refused = refused
wide_refused P Q gives (Game fault) refused = refused
wide_refused P Q gives (Circuit fault) refused = refused
wide_refused P Q gives (Automaton fault) refused = refused
wide_refused P Q gives (Task fault) refused = (refused.0, gives refused.1)
wide_refused P Q gives Memory refused = refused
wide_refused P Q gives Io refused = refused

-- if the labels of each state and of its edges are narrow, all are
pub narrow_labels : (a : Description) → ((k : ℕ) → k < length a.defined → (d : State) → HasNarrow (get_or a.defined k d)) → HasNarrowLabels a
narrow_labels a narrow label is_label = go is_label
  where
    at : (o : Option LabelTree) → IsNarrowLabel o → o ≡ Some label → length (mentioned label) ≤ most_mentioned
    at o is same = let P : Option LabelTree → Type 0 = λ x. IsNarrowLabel x in subst P same is

    go : IsLabelIn a label → length (mentioned label) ≤ most_mentioned
    go (inl (state, contained, same)) =
        let P : State → Type 0 = λ s. HasNarrow s in
        let own : HasNarrow state = subst P contained.2 (narrow contained.0 contained.1 state) in
        at state.label own.own same
    go (inr (edge, contained, same)) =
        let from : IsListed a.defined edge = listed_flat a.defined edge contained in
        let P : State → Type 0 = λ s. HasNarrow s in
        let own : HasNarrow edge.source = subst P (sym from.here) (narrow from.place from.below edge.source) in
        at edge.edge.label (own.edges edge.edge from.contained) same
