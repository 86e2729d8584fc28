-- States that are reached, and how many edges they have.
use Rattle.std.proofs.Common.{◌≡◌, inl, inr, ◌<◌, ◌≤◌, ◌+◌, ℕ, List, [], ◌∷◌, ◌++◌, length, take, drop, take-append-drop, sym, ap, subst, ◌∙◌, arith, length-append}
use Rattle.std.specs.Prelude.{Contains, sum_by}
use Rattle.std.proofs.lemmas.List.{get_or_append_left, get_or_default, length_push, take-append-le}
use Rattle.std.proofs.lemmas.List.Sums.{sum_by_push}
use Rattle.std.proofs.lemmas.List.Elements.{Contains-append_cases, Contains-append_left, Contains-get_or}
use Rattle.std.proofs.lemmas.List.Quantifiers.{all_pairs_push}
use Rattle.omega_ltl_shapes.specs.declared.shape.Shape.{Shape}
use Rattle.omega_ltl_shapes.specs.declared.term.Term.{Term}
use Rattle.omega_ltl_shapes.proofs.ItemLemmas.{take_read}
use Rattle.omega_ltl_terms.specs.Pieces.{AreEdges}
use Rattle.omega_ltl_translation.specs.Limits.{most_labelled_edges}
use Rattle.omega_ltl_translation.specs.PastLimits.{AreOnce, AreReached, HaveEdges, IsGraphTooLarge, IsReached, IsStart, many_edges, many_states, more_edges, reached_next, reached_start}
use Rattle.omega_ltl_translation.specs.declared.graph.GraphEdge.{GraphEdge}
use Rattle.omega_ltl_translation.specs.private.Graphs.{AddsStates, AreEdgesOf, GrowTooMany, IsNext, state_of}
use Rattle.omega_ltl_translation.proofs.Growing.{longer, state_kept}

-- the first states of those that are listed once
pub once_front : (front rest : List (List ℕ)) → AreOnce (front ++ rest) → AreOnce front
once_front front rest are i j d lt within =
    let low = get_or_append_left front rest d i (omega (arith, lt, within)) in
    let high = get_or_append_left front rest d j within in
    λ same. are i j d lt (omega (arith, length-append front rest, within)) (low ∙ same ∙ sym high)

pub once_none : AreOnce []
once_none i j d lt within = absurd (omega (arith, within))

pub once_push : (states : List (List ℕ)) (state : List ℕ) → (Contains states state → ⊥) → AreOnce states → AreOnce (states ++ state ∷ [])
once_push states state new are = all_pairs_push (λ one other. one ≡ other → ⊥) states state are
    (λ k d below same. new (subst (Contains states) same (Contains-get_or states k d below)))

pub reached_front : (shapes : List Shape) (strongs : List ℕ) (root : ℕ) (front rest : List (List ℕ)) → AreReached shapes strongs root (front ++ rest) → AreReached shapes strongs root front
reached_front shapes strongs root front rest are = record {
  each = λ state h. are.each state (Contains-append_left front rest state h);
  once = once_front front rest are.once;
}

-- the start, and what a state leads to
pub reached_first : (shapes : List Shape) (strongs : List ℕ) (root : ℕ) (start : List ℕ) (states : List (List ℕ)) → IsStart shapes root start
    → AddsStates (λ added. added ≡ start) [] states → AreReached shapes strongs root states
reached_first shapes strongs root start states is adds = record {
  each = λ state h. subst (IsReached shapes strongs root) (sym (adds.given state (subst (λ (xs : List (List ℕ)). Contains xs state) adds.behind h)))
      (reached_start start is);
  once = adds.once once_none;
}

pub reached_more : (shapes : List Shape) (strongs : List ℕ) (root : ℕ) (state : List ℕ) (old new : List (List ℕ)) → Contains old state
    → AddsStates (IsNext shapes strongs state) old new → AreReached shapes strongs root old → AreReached shapes strongs root new
reached_more shapes strongs root state old new has adds are = record {
  each = λ next h. elim (Contains-append_cases old adds.more next (subst (λ (xs : List (List ℕ)). Contains xs next) adds.behind h)) [
    | inl before ↦ are.each next before
    | inr after ↦ reached_next state next (are.each state has) (adds.given next after).leads
  ];
  once = adds.once are.once;
}

-- the first of old states are those of new ones
pub first_kept : (G : List ℕ → Type 0) (old new : List (List ℕ)) (count : ℕ) → count ≤ length old → AddsStates G old new → take count new ≡ take count old
first_kept G old new count low adds = ap (take count) adds.behind ∙ take-append-le count old adds.more low

-- the edges of one state more
pub edges_counted : (shapes : List Shape) (strongs : List ℕ) (states : List (List ℕ)) (number count : ℕ) (edges : List Term) → number < length states
    → HaveEdges shapes strongs (take number states) count → AreEdges shapes strongs (state_of states number) edges
    → HaveEdges shapes strongs (take (number + 1) states) (count + length edges)
edges_counted shapes strongs states number count edges low have are =
    subst (λ (xs : List (List ℕ)). HaveEdges shapes strongs xs (count + length edges)) (take_read states number (state_of states number) low (sym (get_or_default states number (state_of states number) [] low)))
    (more_edges (take number states) (state_of states number) count edges have are)

pub counted_more : (shapes : List Shape) (strongs : List ℕ) (G : List ℕ → Type 0) (old new : List (List ℕ)) (edges : List (List GraphEdge)) (row : List GraphEdge) → length edges < length old
    → AddsStates G old new → AreEdgesOf shapes strongs new (state_of old (length edges)) row → HaveEdges shapes strongs (take (length edges) old) (sum_by length edges)
    → HaveEdges shapes strongs (take (length (edges ++ row ∷ [])) new) (sum_by length (edges ++ row ∷ []))
counted_more shapes strongs G old new edges row low adds is have =
    let number : ℕ = length edges in
    let within : number < length new = omega (arith, low, longer G old new adds) in
    let before : HaveEdges shapes strongs (take number new) (sum_by length edges) =
    subst (λ (xs : List (List ℕ)). HaveEdges shapes strongs xs (sum_by length edges)) (sym (first_kept G old new number (omega (arith, low)) adds)) have in
    let pieces : AreEdges shapes strongs (state_of new number) is.terms = subst (λ (s : List ℕ). AreEdges shapes strongs s is.terms) (sym (state_kept G old new adds number low)) is.pieces in
    let after : HaveEdges shapes strongs (take (number + 1) new) (sum_by length edges + length is.terms) = edges_counted shapes strongs new number (sum_by length edges) is.terms within before pieces in
    let total : sum_by length edges + length is.terms ≡ sum_by length (edges ++ row ∷ []) = ap (λ (n : ℕ). sum_by length edges + n) (sym is.numbered.count) ∙ sym (sum_by_push length edges row) in
    subst (λ (n : ℕ). HaveEdges shapes strongs (take n new) (sum_by length (edges ++ row ∷ []))) (sym (length_push edges row))
    (subst (HaveEdges shapes strongs (take (number + 1) new)) total after)

-- what is reached, if states grow over the limit
pub grown_too_large : (shapes : List Shape) (strongs : List ℕ) (root : ℕ) (state : List ℕ) (old : List (List ℕ)) → Contains old state → AreReached shapes strongs root old
    → GrowTooMany (IsNext shapes strongs state) old → IsGraphTooLarge shapes strongs root
grown_too_large shapes strongs root state old has are grow = many_states grow.new (reached_more shapes strongs root state old grow.new has grow.adds are) grow.many

-- or the edges of the first states are over the limit
pub edges_too_large : (shapes : List Shape) (strongs : List ℕ) (root : ℕ) (states : List (List ℕ)) (number count : ℕ) → AreReached shapes strongs root states
    → HaveEdges shapes strongs (take number states) count → most_labelled_edges < count → IsGraphTooLarge shapes strongs root
edges_too_large shapes strongs root states number count are have many = many_edges (take number states) count
    (reached_front shapes strongs root (take number states) (drop number states) (subst (AreReached shapes strongs root) (sym (take-append-drop number states)) are)) have many
