-- Graphs to which states and edges are added.
use Rattle.std.proofs.Common.{◌≡◌, inl, inr, ◌<◌, ◌≤◌, ◌+◌, ◌-◌, ℕ, List, [], ◌∷◌, ◌++◌, length, refl, sym, ap, subst, ◌∙◌, arith, append_assoc, append-nil, length-append}
use Rattle.std.specs.Prelude.{Contains}
use Rattle.std.proofs.lemmas.Bool.{cases_lt}
use Rattle.std.proofs.lemmas.List.{get_or-append_right, get_or_append_left, get_or_at, length_push}
use Rattle.std.proofs.lemmas.List.Elements.{Contains-append_cases, Contains-append_left, Contains-get_or, Contains-push, Contains-push_cases}
use Rattle.omega_ltl_shapes.specs.declared.shape.Shape.{Shape}
use Rattle.omega_ltl_shapes.specs.declared.term.Term.{Term}
use Rattle.omega_ltl_terms.specs.Closing.{Closes}
use Rattle.omega_ltl_translation.specs.declared.graph.GraphEdge.{GraphEdge}
use Rattle.omega_ltl_translation.specs.private.Graphs.{AddsStates, AreEdgesOf, AreNumbered, AreStates, GrowTooMany, IsExplored, IsNumberedEdge, IsStateNumber, edges_of_state, state_of}

pub adds_none : (G : List ℕ → Type 0) (states : List (List ℕ)) → AddsStates G states states
adds_none G states = record { more = []; behind = sym (append-nil states); given = λ state h. absurd (omega (arith, h.1)); once = λ are. are }

pub adds_more : (G : List ℕ → Type 0) (old mid new : List (List ℕ)) → AddsStates G old mid → AddsStates G mid new → AddsStates G old new
adds_more G old mid new a b = record {
  more = a.more ++ b.more;
  behind = b.behind ∙ ap (λ xs. xs ++ b.more) a.behind ∙ append_assoc old a.more b.more;
  given = λ state h. elim (Contains-append_cases a.more b.more state h) [ inl one ↦ a.given state one | inr other ↦ b.given state other ];
  once = λ are. b.once (a.once are);
}

pub adds_weaker : (G H : List ℕ → Type 0) (old new : List (List ℕ)) → ((state : List ℕ) → G state → H state) → AddsStates G old new → AddsStates H old new
adds_weaker G H old new weaker a = record { more = a.more; behind = a.behind; given = λ state h. weaker state (a.given state h); once = a.once }

pub grow_weaker : (G H : List ℕ → Type 0) (old : List (List ℕ)) → ((state : List ℕ) → G state → H state) → GrowTooMany G old → GrowTooMany H old
grow_weaker G H old weaker g = record { new = g.new; adds = adds_weaker G H old g.new weaker g.adds; many = g.many }

module _ (G : List ℕ → Type 0) (old new : List (List ℕ)) (adds : AddsStates G old new) where
  pub longer : length old ≤ length new
  longer = omega (arith, ap length adds.behind, length-append old adds.more)

  pub state_kept : (number : ℕ) → number < length old → state_of new number ≡ state_of old number
  state_kept number low = ap (λ (xs : List (List ℕ)). state_of xs number) adds.behind ∙ get_or_append_left old adds.more [] number low

  pub edge_kept : (term : Term) (edge : GraphEdge) → IsNumberedEdge old term edge → IsNumberedEdge new term edge
  edge_kept term edge is = record {
    cube = is.cube;
    late = is.late;
    low = omega (arith, is.low, longer);
    target = state_kept edge.target is.low ∙ is.target;
  }

  pub numbered_kept : (terms : List Term) (edges : List GraphEdge) → AreNumbered old terms edges → AreNumbered new terms edges
  numbered_kept terms edges are = record {
    count = are.count;
    only = λ edge h. let from = are.only edge h in (from.0, from.1, edge_kept from.0 edge from.2);
    each = λ term h. let to = are.each term h in (to.0, to.1, edge_kept term to.0 to.2);
  }

  pub edges_kept : (shapes : List Shape) (strongs state : List ℕ) (edges : List GraphEdge) → AreEdgesOf shapes strongs old state edges → AreEdgesOf shapes strongs new state edges
  edges_kept shapes strongs state edges are = record {
    terms = are.terms;
    right = are.right;
    enough = are.enough;
    pieces = are.pieces;
    numbered = numbered_kept are.terms edges are.numbered;
  }

pub numbered_none : (states : List (List ℕ)) → AreNumbered states [] []
numbered_none states = record { count = refl; only = λ edge h. absurd (omega (arith, h.1)); each = λ term h. absurd (omega (arith, h.1)) }

-- one term more, whose state has a number
pub numbered_more : (old new : List (List ℕ)) (terms : List Term) (edges : List GraphEdge) (term : Term) (edge : GraphEdge) → AreNumbered old terms edges
    → IsStateNumber term.next old new edge.target → edge.cube ≡ term.cube → edge.late ≡ term.late → AreNumbered new (terms ++ term ∷ []) (edges ++ edge ∷ [])
numbered_more old new terms edges term edge are is cube late = record {
  count = length_push edges edge ∙ ap (λ (n : ℕ). n + 1) are.count ∙ sym (length_push terms term);
  only = λ other h. elim (Contains-push_cases edges edge other h) [
    | inl before ↦ (let from = kept.only other before in (from.0, Contains-append_left terms (term ∷ []) from.0 from.1, from.2))
    | inr same ↦ (term, Contains-push terms term, subst (IsNumberedEdge new term) same here)
  ];
  each = λ other h. elim (Contains-push_cases terms term other h) [
    | inl before ↦ (let to = kept.each other before in (to.0, Contains-append_left edges (edge ∷ []) to.0 to.1, to.2))
    | inr same ↦ (edge, Contains-push edges edge, subst (λ (t : Term). IsNumberedEdge new t edge) same here)
  ];
}
  where
    here : IsNumberedEdge new term edge
    here = record { cube = cube; late = late; low = is.low; target = is.is }

    kept : AreNumbered new terms edges
    kept = numbered_kept (λ added. added ≡ term.next) old new is.adds terms edges are

-- states of demands of a table stay so
pub states_more : (shapes : List Shape) (old new : List (List ℕ)) → AddsStates (λ state. (d : ℕ) → Contains state d → d < length shapes) old new → AreStates shapes old → AreStates shapes new
states_more shapes old new adds are number low d h = elim (cases_lt number (length old)) [
  | inl before ↦ are number before d (subst (λ (s : List ℕ). Contains s d) (state_kept (λ state. (e : ℕ) → Contains state e → e < length shapes) old new adds number before) h)
  | inr reached ↦ adds.given (state_of new number) (there reached) d h
]
  where
    there : length old ≤ number → Contains adds.more (state_of new number)
    there reached =
        let long : length new ≡ length old + length adds.more = ap length adds.behind ∙ length-append old adds.more in
        subst (Contains adds.more) (sym (ap (λ (xs : List (List ℕ)). state_of xs number) adds.behind ∙ get_or-append_right old adds.more (length old) number [] refl reached))
        (Contains-get_or adds.more (number - length old) [] (omega arith))

-- one state more has edges
abbrev Given : List Shape → List ℕ → Type 0
Given shapes state = (d : ℕ) → Contains state d → d < length shapes

pub explored_more : (shapes : List Shape) (strongs : List ℕ) (root count : ℕ) (states new : List (List ℕ)) (edges : List (List GraphEdge)) (row : List GraphEdge)
    → IsExplored shapes strongs root count states edges → AddsStates (λ state. (d : ℕ) → Contains state d → d < length shapes) states new
    → AreEdgesOf shapes strongs new (state_of states count) row → count < length states → IsExplored shapes strongs root (count + 1) new (edges ++ row ∷ [])
explored_more shapes strongs root count states new edges row explored adds is low = record {
  some = omega (arith, explored.some, longer (Given shapes) states new adds);
  start = subst (Closes shapes (root ∷ [])) (sym (state_kept (Given shapes) states new adds 0 explored.some)) explored.start;
  known = states_more shapes states new adds explored.known;
  counted = length_push edges row ∙ ap (λ (n : ℕ). n + 1) explored.counted;
  rows = each;
}
  where
    each : (number : ℕ) → number < count + 1 → AreEdgesOf shapes strongs new (state_of new number) (edges_of_state (edges ++ row ∷ []) number)
    each number within = elim (cases_lt number count) [
      | inl before ↦ subst (λ (s : List ℕ). AreEdgesOf shapes strongs new s (edges_of_state (edges ++ row ∷ []) number)) (sym (state_kept (Given shapes) states new adds number (omega arith)))
          (subst (AreEdgesOf shapes strongs new (state_of states number)) (sym (get_or_append_left edges (row ∷ []) [] number (omega (arith, explored.counted))))
          (edges_kept (Given shapes) states new adds shapes strongs (state_of states number) (edges_of_state edges number) (explored.rows number before)))
      | inr reached ↦ (let same : count ≡ number = omega arith in
          subst (λ (n : ℕ). AreEdgesOf shapes strongs new (state_of new n) (edges_of_state (edges ++ row ∷ []) n)) same
          (subst (λ (s : List ℕ). AreEdgesOf shapes strongs new s (edges_of_state (edges ++ row ∷ []) count)) (sym (state_kept (Given shapes) states new adds count low))
          (subst (AreEdgesOf shapes strongs new (state_of states count)) (sym (get_or_at edges row [] [] count explored.counted)) is)))
    ]

-- the start alone, without edges
pub explored_none : (shapes : List Shape) (strongs : List ℕ) (root number : ℕ) (start : List ℕ) (states : List (List ℕ)) → Closes shapes (root ∷ []) start
    → IsStateNumber start [] states number → IsExplored shapes strongs root 0 states []
explored_none shapes strongs root number start states closes is = record {
  some = some;
  start = subst (Closes shapes (root ∷ [])) (sym (all_start 0 some)) closes;
  known = λ at low d h. closes.below d (subst (λ (s : List ℕ). Contains s d) (all_start at low) h);
  counted = refl;
  rows = λ at low. absurd (omega (arith, low));
}
  where
    some : 0 < length states
    some = omega (arith, is.low)

    all_start : (at : ℕ) → at < length states → state_of states at ≡ start
    all_start at low =
        let same : is.adds.more ≡ states = sym is.adds.behind in
        is.adds.given (state_of states at) (subst (λ (xs : List (List ℕ)). Contains xs (state_of states at)) (sym same) (Contains-get_or states at [] low))
