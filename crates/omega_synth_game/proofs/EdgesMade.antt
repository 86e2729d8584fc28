-- An edge of the rounds is that of the automaton, and one edge more.
use Rattle.std.proofs.Common.{◌≡◌, ℕ, zero, suc, ◌+◌, ◌<◌, ◌≤◌, inl, inr, Bool, true, false, cond, List, [], ◌∷◌, ◌++◌, length, get_or, All, Some, sym, ap, refl, ◌∙◌, subst, arith, length-append}
use Rattle.std.proofs.lemmas.Bool.{cases_eq}
use Rattle.std.proofs.Math.Seq.{get_or-append_seam}
use Rattle.std.proofs.lemmas.List.{get_or_append_left}
use Rattle.std.proofs.lemmas.List.Elements.{All-head, All-tail}
use Rattle.omega_hoa_parity_kind.specs.Priority.{beyond, has_parity, least_from, priority_by, priority_of}
use Rattle.omega_hoa_parity_kind.specs.declared.kind.Order.{Order}
use Rattle.omega_hoa_parity_kind.specs.declared.kind.Order.TheVariants.{Max, Min}
use Rattle.omega_hoa_parity_kind.specs.declared.kind.Parity.{Parity}
use Rattle.omega_hoa_parity_kind.specs.declared.kind.Parity.TheVariants.{Even, Odd}
use Rattle.omega_hoa_parity_kind.specs.declared.kind.ParityKind.{ParityKind}
use Rattle.omega_hoa_acceptance.specs.Acceptance.{acc_depth, conjunction, disjunction, fin, inf}
use Rattle.omega_hoa_acceptance.specs.Kind.{formula_of, sets_left}
use Rattle.omega_hoa_acceptance.specs.declared.kind.AccKind.TheVariants as kinds
use Rattle.omega_hoa_automaton.specs.AcceptanceKind.{HasKind}
use Rattle.omega_hoa_automaton.specs.Automaton.{BodyEdge, Description, IsAutomaton, edge_at}
use Rattle.omega_hoa_automaton.specs.Branching.{has_universal_branching}
use Rattle.omega_hoa_automaton.specs.declared.edge.Edge.{Edge}
use Rattle.omega_hoa_automaton.specs.declared.state.State.{State}
use Rattle.omega_lang_runs.specs.Lasso.{marks_of}
use Rattle.omega_lang_runs.specs.Places.{EdgeStandsAt}
use Rattle.omega_lang_runs.specs.declared.place.EdgePlace.{EdgePlace}
use Rattle.omega_lang_runs.proofs.Kept.{edge_kept, marks_are, marks_low}
use Rattle.omega_lang_runs.proofs.SingleTargets.{EntersOne, enters_one}
use Rattle.omega_synth_rounds.specs.Rounds.{no_edge}
use Rattle.omega_synth_rounds.specs.declared.rounds.RoundEdge.{RoundEdge}
use Rattle.omega_synth_game.specs.private.Making.{AreRoundEdges, IsRoundEdgeAt}
use Rattle.omega_synth_game.specs.RoundsOf.{IsRoundEdgeOf}

beyond_low : (count : ℕ) (xs : List ℕ) → All (λ mark. mark < count) xs → beyond xs ≤ count
beyond_low count [] below = omega arith
beyond_low count (x ∷ xs) below =
    omega (arith, All-head (λ mark. mark < count) x xs below, beyond_low count xs (All-tail (λ mark. mark < count) x xs below))

least_from_low : (parity : Parity) (count : ℕ) → least_from parity count ≤ count + 1
least_from_low parity count = go (has_parity parity count)
  where
    go : (b : Bool) → cond b count (count + 1) ≤ count + 1
    go true = omega arith
    go false = omega arith

-- a priority is at most one more than the count of sets
pub priority_low : (kind : ParityKind) (xs : List ℕ) → All (λ mark. mark < kind.count) xs → priority_of kind xs ≤ kind.count + 1
priority_low kind xs below = go kind.order kind.parity
  where
    go : (order : Order) (parity : Parity) → priority_by order parity kind.count xs ≤ kind.count + 1
    go Max Even = omega (arith, beyond_low kind.count xs below)
    go Max Odd = omega (arith, beyond_low kind.count xs below)
    go Min parity = omega (arith, least_from_low parity kind.count)

formula_deep : (order : Order) (parity : Parity) (sets : List ℕ) → length sets ≤ acc_depth (formula_of order parity sets)
formula_deep order parity [] = omega arith
formula_deep order parity (set ∷ []) = go (has_parity parity set)
  where
    go : (b : Bool) → 1 ≤ acc_depth (cond b (inf false set) (fin false set))
    go true = omega arith
    go false = omega arith
formula_deep order parity (set ∷ next ∷ rest) = go (has_parity parity set) (formula_deep order parity (next ∷ rest))
  where
    go : (b : Bool) → suc (length rest) ≤ acc_depth (formula_of order parity (next ∷ rest))
        → suc (suc (length rest)) ≤ acc_depth (cond b (disjunction (inf false set) (formula_of order parity (next ∷ rest))) (conjunction (fin false set) (formula_of order parity (next ∷ rest))))
    go true deep = omega arith
    go false deep = omega arith

length-sets_left : (order : Order) (count following : ℕ) → length (sets_left order count following) ≡ following
length-sets_left order count zero = refl
length-sets_left order count (suc following) = ap suc (length-sets_left order count following)

-- the sets of a kind are at most as many as its formula is deep
pub count_low : (a : Description) (kind : ParityKind) → IsAutomaton a → HasKind a (kinds.Parity kind) → kind.count ≤ 256
count_low a kind automaton has =
    omega (
      arith,
      automaton.shallow,
      ap acc_depth has.row.formula_is,
      formula_deep kind.order kind.parity (sets_left kind.order kind.count kind.count),
      length-sets_left kind.order kind.count kind.count,
    )

module _ (a : Description) (kind : ParityKind) (automaton : IsAutomaton a) (has : HasKind a (kinds.Parity kind))
    (number : ℕ) (place : EdgePlace) (stands : EdgeStandsAt a number place) where
  abbrev body : BodyEdge
  body = record { source = stands.state; edge = stands.edge }

  pub marks_below : (marks : List ℕ) → marks ≡ marks_of body → All (λ mark. mark < kind.count) marks
  marks_below marks is =
      let P : ℕ → Type 0 = λ count. All (λ mark. mark < count) (marks_of body) in
      let Q : List ℕ → Type 0 = λ list. All (λ mark. mark < a.sets) list in
      subst (λ (list : List ℕ). All (λ mark. mark < kind.count) list) (sym is)
      (subst P has.row.counted (subst Q (marks_are a number body stands.numbered) (marks_low a automaton number)))

  same_edge : (edge : BodyEdge) → edge_at a number ≡ Some edge → body ≡ edge
  same_edge edge numbered = some_same body edge (sym stands.numbered ∙ numbered)
    where
      some_same : (x y : BodyEdge) → Some x ≡ Some y → x ≡ y
      some_same x y e = cc

  pub edge_made : has_universal_branching a ≡ false → (state : State) (edge : Edge) (marks : List ℕ) (source target priority : ℕ)
      → state ≡ stands.state → edge ≡ stands.edge → marks ≡ marks_of body → source ≡ state.number → target ≡ get_or edge.targets 0 0
      → priority ≡ priority_of kind marks → IsRoundEdgeAt a kind number (record { source = source; target = target; priority = priority })
  edge_made plain state edge marks source target priority state_is edge_is marks_is source_is target_is priority_is =
      let one : EntersOne a.states body = enters_one a automaton plain number body stands.numbered in
      let kept = edge_kept a automaton number body stands.numbered in
      let source_same : source ≡ stands.state.number = source_is ∙ ap (λ (s : State). s.number) state_is in
      let target_same : target ≡ one.target =
      target_is ∙ ap (λ (e : Edge). get_or e.targets 0 0) edge_is ∙ ap (λ (list : List ℕ). get_or list 0 0) one.enters in
      let made : IsRoundEdgeOf kind body (record { source = source; target = target; priority = priority }) = record {
        source = source_same;
        target = one.enters ∙ ap (λ (t : ℕ). t ∷ []) (sym target_same);
        priority = priority_is ∙ ap (priority_of kind) marks_is;
      } in
      record {
        each = λ other numbered. subst (λ (e : BodyEdge). IsRoundEdgeOf kind e (record { source = source; target = target; priority = priority })) (same_edge other numbered) made;
        source = omega (arith, source_same, kept.0.number);
        target = omega (arith, target_same, one.below);
        priority = omega (arith, priority_is, priority_low kind marks (marks_below marks marks_is), count_low a kind automaton has);
      }

-- one edge more
pub edges_more : (a : Description) (kind : ParityKind) (end : ℕ) (edges : List RoundEdge) (edge : RoundEdge) → AreRoundEdges a kind end edges
    → IsRoundEdgeAt a kind end edge → AreRoundEdges a kind (end + 1) (edges ++ edge ∷ [])
edges_more a kind end edges edge are next = record {
  entries = length-append edges (edge ∷ []) ∙ omega (arith, are.entries);
  each = λ number below.
      elim (cases_eq number end) [
        | inl same ↦
            let at_end : get_or (edges ++ edge ∷ []) end no_edge ≡ edge =
            ap (λ n. get_or (edges ++ edge ∷ []) n no_edge) (sym are.entries) ∙ get_or-append_seam edges edge [] no_edge in
            subst (λ (n : ℕ). IsRoundEdgeAt a kind n (get_or (edges ++ edge ∷ []) n no_edge)) (sym same)
            (subst (λ (e : RoundEdge). IsRoundEdgeAt a kind end e) (sym at_end) next)
        | inr apart ↦
            let shorter : number < length edges = omega (arith, below, are.entries) in
            subst (λ (e : RoundEdge). IsRoundEdgeAt a kind number e) (sym (get_or_append_left edges (edge ∷ []) no_edge number shorter))
            (are.each number (omega (arith, below)))
      ];
}
