-- No word is accepted by a deterministic automaton and by its complement: their runs are the same, and what the one
-- accepts the other does not.
use Rattle.std.proofs.Common.{◌≡◌, ℕ, zero, suc, ◌+◌, ◌<◌, ◌≤◌, ◌⊎◌, inl, inr, Bool, true, false, List, [], ◌∷◌, ◌++◌, length, slice_get, Some, Contains, refl, sym, ap, subst, ◌∙◌, arith, true≢false}
use Rattle.std.specs.Prelude.{slice_index_or}
use Rattle.std.proofs.lemmas.Bool.{cases_lt}
use Rattle.std.proofs.lemmas.List.Elements.{All-contains, Contains-append_cases}
use Rattle.std.proofs.lemmas.Option.{get_or_from_slice_get, slice_get_within}
use Rattle.omega_hoa_acceptance.specs.Acceptance.{disjunction, holds, inf}
use Rattle.omega_hoa_label.specs.Label.{LabelTree, truth}
use Rattle.omega_hoa_automaton.specs.Automaton.{AreBelow, AreTargets, Description, IsAutomaton, IsEdge, IsState}
use Rattle.omega_hoa_automaton.specs.declared.edge.Edge.{Edge}
use Rattle.omega_hoa_automaton.specs.Meaning.{Means}
use Rattle.omega_hoa_automaton.proofs.validity.Automata.{means_is_automaton}
use Rattle.omega_lang_runs.specs.Lasso.{marks_at}
use Rattle.omega_lang_runs.specs.Runs.{Satisfies}
use Rattle.omega_lang_runs.specs.Words.{IsAccepted}
use Rattle.omega_hoa_syntax.specs.declared.raw_automaton.RawAutomaton.{RawAutomaton}
use Rattle.omega_hoa_edges.specs.Determinism.{IsDeterministic}
use Rattle.omega_hoa_acceptance.specs.Dual.{dual}
use Rattle.omega_hoa_edges.specs.AutomatonLabels.{labels_at, state_at}
use Rattle.omega_hoa_edges.specs.Labels.{label_at}
use Rattle.omega_hoa_edges.specs.Letters.{AreExclusive}
use Rattle.omega_lang_complement.specs.Written.{IsWrittenComplement}
use Rattle.omega_hoa_edges.proofs.Bits.{both_true}
use Rattle.omega_hoa_edges.proofs.Full.{any_at}
use Rattle.omega_hoa_edges.proofs.Rows.{each_there}
use Rattle.omega_lang_word_laws.proofs.parting.Formulas.{AreSame, no_both}
use Rattle.omega_lang_word_laws.proofs.parting.Meant.{HoldSame, IsLost, IsOwn, acceptance_plain, acceptance_sink, held_contains, move_is, starts_are}
use Rattle.omega_lang_word_laws.proofs.parting.Moves.{IsMove, step_moves}
use Rattle.omega_lang_word_laws.proofs.parting.Numbered.{same_some, state_there}
use Rattle.omega_lang_word_laws.specs.Complements.{ComplementsAreApart}

pub get_Contains : {X : Type 0} (xs : List X) (k : ℕ) (x : X) → slice_get xs k ≡ Some x → Contains xs x
get_Contains xs k x e = (k, slice_get_within xs k x e, get_or_from_slice_get xs k x x e)

one_item : (x y : ℕ) → x ∷ [] ≡ y ∷ [] → x ≡ y
one_item x y e = cc

cases_order : (i j : ℕ) → (i < j) ⊎ ((i ≡ j) ⊎ (j < i))
cases_order i j = go (cases_lt i j) (cases_lt j i)
  where
    go : (i < j) ⊎ (j ≤ i) → (j < i) ⊎ (i ≤ j) → (i < j) ⊎ ((i ≡ j) ⊎ (j < i))
    go (inl less) other = inl less
    go (inr past) (inl more) = inr (inr more)
    go (inr past) (inr back) = inr (inl (omega arith))

module _ (a : Description) (is_automaton : IsAutomaton a) where
  -- an edge of a state, and the state, are some of the automaton
  pub edge_of : (n index : ℕ) (edge : Edge) → slice_get (state_at a n).edges index ≡ Some edge → IsState a (state_at a n) × IsEdge a edge
  edge_of n index edge e =
      let there = state_there a.defined n index edge e in
      let state : IsState a (state_at a n) = All-contains (IsState a) a.defined (state_at a n) is_automaton.states (get_Contains a.defined there.0 (state_at a n) there.1) in
      (state, All-contains (IsEdge a) (state_at a n).edges edge state.edges (get_Contains (state_at a n).edges index edge e))

  pub move_within : (n : ℕ) (held : ℕ → Bool) (to : ℕ) (marks : List ℕ) → IsMove a n held to marks → to < a.states
  move_within n held to marks move =
      All-contains (λ (m : ℕ). m < a.states) (to ∷ []) to
      (subst (AreBelow a.states) move.enters (edge_of n move.index move.edge move.there).1.targets.below) (0, omega arith, refl)

  -- no move is in the set after all
  pub move_unmarked : (n : ℕ) (held : ℕ → Bool) (to : ℕ) (marks : List ℕ) → IsMove a n held to marks → holds a.sets marks ≡ true → ⊥
  move_unmarked n held to marks move e =
      go (Contains-append_cases (state_at a n).marks move.edge.marks a.sets (held_contains ((state_at a n).marks ++ move.edge.marks) a.sets (ap (holds a.sets) (sym move.marked) ∙ e)))
    where
      both : IsState a (state_at a n) × IsEdge a move.edge
      both = edge_of n move.index move.edge move.there

      itself : a.sets < a.sets → ⊥
      itself less = omega arith

      go : Contains (state_at a n).marks a.sets ⊎ Contains move.edge.marks a.sets → ⊥
      go (inl at) = itself (All-contains (λ (m : ℕ). m < a.sets) (state_at a n).marks a.sets both.0.marks.below at)
      go (inr at) = itself (All-contains (λ (m : ℕ). m < a.sets) move.edge.marks a.sets both.1.marks.below at)

  -- at a letter there is one move at most
  pub moves_same : (n : ℕ) (held : ℕ → Bool) (to other : ℕ) (marks others : List ℕ) → AreExclusive (labels_at a n) → IsMove a n held to marks → IsMove a n held other others
      → (to ≡ other) × (marks ≡ others)
  moves_same n held to other marks others apart one two = go (cases_order one.index two.index)
    where
      label_one : LabelTree
      label_one = label_at (length a.propositions) (state_at a n) one.index one.edge

      label_two : LabelTree
      label_two = label_at (length a.propositions) (state_at a n) two.index two.edge

      at_one : slice_get (labels_at a n) one.index ≡ Some label_one
      at_one = each_there (label_at (length a.propositions) (state_at a n)) (state_at a n).edges one.index one.edge one.there

      at_two : slice_get (labels_at a n) two.index ≡ Some label_two
      at_two = each_there (label_at (length a.propositions) (state_at a n)) (state_at a n).edges two.index two.edge two.there

      go : (one.index < two.index) ⊎ ((one.index ≡ two.index) ⊎ (two.index < one.index)) → (to ≡ other) × (marks ≡ others)
      go (inl less) =
          absurd (apart (
            label_one,
            (
              label_two,
              record { first = one.index; second = two.index; in_order = less; first_is = at_one; second_is = at_two },
              (held, both_true (truth held label_one) (truth held label_two) one.holds two.holds),
            ),
          ))
      go (inr (inr more)) =
          absurd (apart (
            label_two,
            (
              label_one,
              record { first = two.index; second = one.index; in_order = more; first_is = at_two; second_is = at_one },
              (held, both_true (truth held label_two) (truth held label_one) two.holds one.holds),
            ),
          ))
      go (inr (inl same)) =
          let edge : one.edge ≡ two.edge =
          same_some one.edge two.edge (sym one.there ∙ ap (slice_get (state_at a n).edges) same ∙ two.there) in (
            one_item to other (sym one.enters ∙ ap (λ (e : Edge). e.targets) edge ∙ two.enters),
            one.marked ∙ ap (λ (e : Edge). (state_at a n).marks ++ e.marks) edge ∙ sym two.marked,
          )

module _ (a c : Description) (is_a : IsAutomaton a) (deterministic : IsDeterministic a) (raw : RawAutomaton) (written : IsWrittenComplement a raw) (means : Means raw c) (is_c : IsAutomaton c) where
  -- from one state at one letter both move alike
  alike : (n : ℕ) (held : ℕ → Bool) (to other : ℕ) (marks others : List ℕ) → n < a.states → IsMove a n held to marks → IsMove c n held other others
      → (to ≡ other) × HoldSame marks others
  alike n held to other marks others below one two = go (move_is a c raw written means is_c n held other others below two)
    where
      go : IsOwn a c raw written means is_c n held other others ⊎ IsLost a c raw written means is_c n held other → (to ≡ other) × HoldSame marks others
      go (inl (own, (move, same))) =
          let both = moves_same a is_a n held to other marks own (deterministic.apart n below) one move in
          (both.0, λ set. ap (holds set) both.1 ∙ sym (same set))
      go (inr lost) =
          absurd (true≢false
          (sym (any_at (truth held) (labels_at a n) one.index (label_at (length a.propositions) (state_at a n) one.index one.edge)
          (each_there (label_at (length a.propositions) (state_at a n)) (state_at a n).edges one.index one.edge one.there) one.holds)
          ∙ lost.0))

  -- a start is the only one
  first_start : (starts : List (List ℕ)) (s : ℕ) (d : List ℕ) → length starts ≤ 1 → Contains starts (s ∷ []) → slice_index_or starts 0 d ≡ s ∷ []
  first_start [] s d few (k, below, is) = absurd (omega arith)
  first_start (x ∷ []) s d few (zero, below, is) = is
  first_start (x ∷ []) s d few (suc k, below, is) = absurd (omega arith)
  first_start (x ∷ y ∷ rest) s d few at = absurd (omega arith)

  module _ (word : ℕ → ℕ → Bool) (one : IsAccepted a word) (other : IsAccepted c word) where
    start : (one.states 0 ≡ other.states 0) × (one.states 0 < a.states)
    start =
        let first : slice_index_or a.starts 0 (a.states ∷ []) ≡ one.states 0 ∷ [] =
        first_start a.starts (one.states 0) (a.states ∷ []) deterministic.one_start one.accepting.run.begins in
        let begins : Contains (slice_index_or a.starts 0 (a.states ∷ []) ∷ []) (other.states 0 ∷ []) =
        subst (λ (ss : List (List ℕ)). Contains ss (other.states 0 ∷ [])) (starts_are a c raw written means is_c) other.accepting.run.begins in
        let second : slice_index_or a.starts 0 (a.states ∷ []) ≡ other.states 0 ∷ [] =
        first_start (slice_index_or a.starts 0 (a.states ∷ []) ∷ []) (other.states 0) [] (omega arith) begins in
        let targets : AreTargets a (one.states 0 ∷ []) = All-contains (AreTargets a) a.starts (one.states 0 ∷ []) is_a.starts one.accepting.run.begins in (
          one_item (one.states 0) (other.states 0) (sym first ∙ second),
          All-contains (λ (m : ℕ). m < a.states) (one.states 0 ∷ []) (one.states 0) targets.below (0, omega arith, refl),
        )

    move_one : (i : ℕ) → IsMove a (one.states i) (word i) (one.states (i + 1)) (marks_at a (one.edges i))
    move_one i = step_moves a is_a (one.states i) (one.edges i) (one.states (i + 1)) (word i) (one.accepting.run.steps i) (one.taken i)

    move_other : (i : ℕ) → IsMove c (other.states i) (word i) (other.states (i + 1)) (marks_at c (other.edges i))
    move_other i = step_moves c is_c (other.states i) (other.edges i) (other.states (i + 1)) (word i) (other.accepting.run.steps i) (other.taken i)

    both_move : (i : ℕ) → (one.states i ≡ other.states i) × (one.states i < a.states)
        → (one.states (i + 1) ≡ other.states (i + 1)) × HoldSame (marks_at a (one.edges i)) (marks_at c (other.edges i))
    both_move i at =
        alike (one.states i) (word i) (one.states (i + 1)) (other.states (i + 1)) (marks_at a (one.edges i)) (marks_at c (other.edges i)) at.1 (move_one i)
        (subst (λ n. IsMove c n (word i) (other.states (i + 1)) (marks_at c (other.edges i))) (sym at.0) (move_other i))

    together : (i : ℕ) → (one.states i ≡ other.states i) × (one.states i < a.states)
    together zero = start
    together (suc i) =
        let next : i + 1 ≡ suc i = omega arith in
        subst (λ n. (one.states n ≡ other.states n) × (one.states n < a.states)) next
        ((both_move i (together i)).0, move_within a is_a (one.states i) (word i) (one.states (i + 1)) (marks_at a (one.edges i)) (move_one i))

    same : AreSame (λ i. marks_at a (one.edges i)) (λ i. marks_at c (other.edges i))
    same i set = (both_move i (together i)).1 set

    pub never_both : ⊥
    never_both = go written.sink refl
      where
        by_sink : Satisfies (λ i. marks_at c (other.edges i)) (disjunction (dual a.acceptance) (inf false a.sets)) → ⊥
        by_sink (inl accepted) = no_both a.acceptance (λ i. marks_at a (one.edges i)) (λ i. marks_at c (other.edges i)) same one.accepting.accepted accepted
        by_sink (inr always) =
            let at = always 0 in
            move_unmarked a is_a (one.states at.0) (word at.0) (one.states (at.0 + 1)) (marks_at a (one.edges at.0)) (move_one at.0) (same at.0 a.sets ∙ at.2)

        go : (b : Bool) → written.sink ≡ b → ⊥
        go false e =
            no_both a.acceptance (λ i. marks_at a (one.edges i)) (λ i. marks_at c (other.edges i)) same one.accepting.accepted
            (subst (Satisfies (λ i. marks_at c (other.edges i))) (acceptance_plain a c raw written means is_c e) other.accepting.accepted)
        go true e = by_sink (subst (Satisfies (λ i. marks_at c (other.edges i))) (acceptance_sink a c raw written means is_c e) other.accepting.accepted)

pub complements_apart : ComplementsAreApart
complements_apart a c word is_a deterministic (raw, written, means) one other =
    never_both a c is_a deterministic raw written means (means_is_automaton raw c means) word one other
