-- Where the complement of a strategy goes at a letter: where the strategy goes, or to the sink if the strategy does not
-- go on.
use Rattle.std.proofs.Common.{◌≡◌, ℕ, zero, suc, ◌+◌, ◌<◌, ◌≤◌, ◌⊎◌, inl, inr, Bool, true, false, ◌||◌, List, [], ◌∷◌, ◌++◌, length, slice_get, Some, None, Contains, refl, sym, ap, subst, ◌∙◌, arith, true≢false}
use Rattle.std.specs.Prelude.{slice_index_or}
use Rattle.std.specs.List.{list_any}
use Rattle.std.proofs.lemmas.List.Elements.{All-contains}
use Rattle.omega_hoa_label.specs.Label.{truth}
use Rattle.omega_hoa_automaton.specs.Automaton.{AreTargets, Description, IsAutomaton}
use Rattle.omega_hoa_automaton.specs.Meaning.{IsEdgeOf, IsStateOf, Means}
use Rattle.omega_hoa_automaton.specs.declared.edge.Edge.{Edge}
use Rattle.omega_hoa_syntax.specs.declared.raw_automaton.RawAutomaton.{RawAutomaton}
use Rattle.omega_hoa_syntax.specs.declared.raw_edge.RawEdge.{RawEdge}
use Rattle.omega_hoa_edges.specs.AutomatonLabels.{labels_at, state_at}
use Rattle.omega_hoa_edges.specs.Labels.{label_at}
use Rattle.omega_hoa_edges.specs.Determinism.{IsDeterministic}
use Rattle.omega_hoa_edges.proofs.Full.{any_at}
use Rattle.omega_hoa_edges.proofs.Rows.{each_at, each_there}
use Rattle.omega_lang_complement.specs.Complement.{IsComplement}
use Rattle.omega_lang_complement.specs.Written.{IsWrittenComplement, sink_state}
use Rattle.omega_lang_runs.specs.Lasso.{IsStart, marks_at}
use Rattle.omega_lang_word_laws.proofs.naming.Same.{same_names}
use Rattle.omega_lang_word_laws.proofs.parting.Apart.{move_within}
use Rattle.omega_lang_word_laws.proofs.parting.Meant.{IsLost, IsOwn, lost_moves, move_is, own_moves, sink_meant, starts_are, state_within}
use Rattle.omega_lang_word_laws.proofs.parting.Moves.{IsMove, IsTakenStep, move_steps, step_moves}
use Rattle.omega_lang_word_laws.proofs.parting.Numbered.{zip_right}
use Rattle.omega_lang_word_laws.proofs.parting.Plain.{target_of}
use Rattle.omega_synth_check.specs.CounterJudging.{GoesAt, GoesOn, NamedLetter}
use Rattle.omega_synth_check.proofs.Sides.{seen}

-- where an automaton goes at a letter, it moves, and where it moves, it goes
pub goes_moves : (a : Description) → IsAutomaton a → (letter : NamedLetter) (s t : ℕ) (goes : GoesAt a letter s t)
    → IsMove a s (seen a.propositions letter) t (marks_at a goes.number)
goes_moves a automaton letter s t goes = step_moves a automaton s goes.number t (seen a.propositions letter) goes.step goes.taken

pub moves_goes : (a : Description) → IsAutomaton a → (letter : NamedLetter) (s t : ℕ) (marks : List ℕ) → IsMove a s (seen a.propositions letter) t marks
    → GoesAt a letter s t
moves_goes a automaton letter s t marks move =
    let taken : IsTakenStep a automaton s (seen a.propositions letter) t marks = move_steps a automaton s (seen a.propositions letter) t marks move in
    record { number = taken.number; step = taken.step; taken = taken.taken }

any_there : {X : Type 0} (p : X → Bool) (xs : List X) → list_any p xs ≡ true → (k : ℕ) × ((x : X) × (slice_get xs k ≡ Some x) × (p x ≡ true))
any_there p [] e = absurd (true≢false (sym e))
any_there {X = X} p (x ∷ xs) e = go (p x) refl (any_there p xs) e
  where
    rest_of : (b : Bool) → p x ≡ b → b ≡ false → (p x || list_any p xs) ≡ true → list_any p xs ≡ true
    rest_of b is none some = sym (ap (λ v. v || list_any p xs) (is ∙ none)) ∙ some

    go : (b : Bool) → p x ≡ b → (list_any p xs ≡ true → (k : ℕ) × ((y : X) × (slice_get xs k ≡ Some y) × (p y ≡ true))) → (p x || list_any p xs) ≡ true
        → (k : ℕ) × ((y : X) × (slice_get (x ∷ xs) k ≡ Some y) × (p y ≡ true))
    go true is rest some = (0, (x, refl, is))
    go false is rest some = let found = rest (rest_of false is refl some) in (suc found.0, found.1)

module _ (a : Description) (is_a : IsAutomaton a) where
  -- a start is a state, and where an automaton goes is one
  pub start_within : (s : ℕ) → IsStart a s → s < a.states
  start_within s begins =
      let targets : AreTargets a (s ∷ []) = All-contains (AreTargets a) a.starts (s ∷ []) is_a.starts begins in
      All-contains (λ (m : ℕ). m < a.states) (s ∷ []) s targets.below (0, omega arith, refl)

  pub goes_within : (letter : NamedLetter) (s t : ℕ) → GoesAt a letter s t → t < a.states
  goes_within letter s t goes =
      move_within a is_a s (seen a.propositions letter) t (marks_at a goes.number) (goes_moves a is_a letter s t goes)

  module _ (deterministic : IsDeterministic a) (letter : NamedLetter) where
    -- whether it goes on is decided
    abbrev pub Lacks : ℕ → Type 0
    Lacks s = list_any (truth (seen a.propositions letter)) (labels_at a s) ≡ false

    pub goes_or_lacks : (s : ℕ) → GoesOn a letter s ⊎ Lacks s
    goes_or_lacks s = go (list_any (truth (seen a.propositions letter)) (labels_at a s)) refl
      where
        held : ℕ → Bool
        held = seen a.propositions letter

        go : (b : Bool) → list_any (truth held) (labels_at a s) ≡ b → GoesOn a letter s ⊎ Lacks s
        go false lacks = inr lacks
        go true some =
            let found = any_there (truth held) (labels_at a s) some in
            let own = each_at (label_at (length a.propositions) (state_at a s)) (state_at a s).edges found.0 found.1.0 found.1.1 in
            let edge : Edge = own.0 in
            let target = target_of a is_a deterministic s found.0 edge own.1.0 in
            let move : IsMove a s held target.0 ((state_at a s).marks ++ edge.marks) =
            record {
              index = found.0;
              edge = edge;
              there = own.1.0;
              holds = sym (ap (truth held) own.1.1) ∙ found.1.2;
              enters = target.1;
              marked = refl;
            } in
            inl (target.0, moves_goes a is_a letter s target.0 ((state_at a s).marks ++ edge.marks) move)

    pub lacks_stays : (s : ℕ) → Lacks s → GoesOn a letter s → ⊥
    lacks_stays s lacks (t, goes) =
        let move : IsMove a s (seen a.propositions letter) t (marks_at a goes.number) = goes_moves a is_a letter s t goes in
        true≢false
        (sym (any_at (truth (seen a.propositions letter)) (labels_at a s) move.index (label_at (length a.propositions) (state_at a s) move.index move.edge)
        (each_there (label_at (length a.propositions) (state_at a s)) (state_at a s).edges move.index move.edge move.there) move.holds)
        ∙ lacks)

module _ (a c : Description) (is_a : IsAutomaton a) (deterministic : IsDeterministic a) (is : IsComplement a c) (is_c : IsAutomaton c) where
  abbrev raw : RawAutomaton
  raw = is.0

  abbrev written : IsWrittenComplement a raw
  written = is.1

  abbrev means : Means raw c
  means = is.2

  seen_same : (letter : NamedLetter) → seen c.propositions letter ≡ seen a.propositions letter
  seen_same letter = ap (λ (names : List (List ℕ)). seen names letter) (same_names a c is)

  -- the complement goes where the strategy goes
  pub own_goes : (letter : NamedLetter) (s t : ℕ) → s < a.states → GoesAt a letter s t → GoesAt c letter s t
  own_goes letter s t below goes =
      let moved = own_moves a c raw written means is_c s (seen a.propositions letter) t (marks_at a goes.number) below (goes_moves a is_a letter s t goes) in
      moves_goes c is_c letter s t moved.0 (subst (λ (held : ℕ → Bool). IsMove c s held t moved.0) (sym (seen_same letter)) moved.1.0)

  -- and to the sink where the strategy does not go on
  pub lost_goes : (letter : NamedLetter) (s : ℕ) → s < a.states → Lacks a is_a deterministic letter s → GoesAt c letter s a.states
  lost_goes letter s below lacks =
      let moved = lost_moves a c raw written means is_c s (seen a.propositions letter) below lacks in
      moves_goes c is_c letter s a.states moved.0 (subst (λ (held : ℕ → Bool). IsMove c s held a.states moved.0) (sym (seen_same letter)) moved.1)

  -- it goes nowhere else
  pub rest_goes : (letter : NamedLetter) (s t : ℕ) → s < a.states → GoesAt c letter s t → GoesAt a letter s t ⊎ (Lacks a is_a deterministic letter s × (t ≡ a.states))
  rest_goes letter s t below goes = go (move_is a c raw written means is_c s (seen a.propositions letter) t (marks_at c goes.number) below move)
    where
      move : IsMove c s (seen a.propositions letter) t (marks_at c goes.number)
      move = subst (λ (held : ℕ → Bool). IsMove c s held t (marks_at c goes.number)) (seen_same letter) (goes_moves c is_c letter s t goes)

      go : IsOwn a c raw written means is_c s (seen a.propositions letter) t (marks_at c goes.number) ⊎ IsLost a c raw written means is_c s (seen a.propositions letter) t
          → GoesAt a letter s t ⊎ (Lacks a is_a deterministic letter s × (t ≡ a.states))
      go (inl own) = inl (moves_goes a is_a letter s t own.0 own.1.0)
      go (inr lost) = inr lost

  -- from the sink it goes back to the sink
  pub sink_goes : (letter : NamedLetter) (t : ℕ) → GoesAt c letter a.states t → t ≡ a.states
  sink_goes letter t goes = go (state_within a c raw written means is_c a.states move.index move.edge move.there)
    where
      move : IsMove c a.states (seen c.propositions letter) t (marks_at c goes.number)
      move = goes_moves c is_c letter a.states t goes

      one : (x y : ℕ) → x ∷ [] ≡ y ∷ [] → y ≡ x
      one x y e = cc

      by_sink : IsStateOf [] (sink_state a) (state_at c a.states) → t ≡ a.states
      by_sink s = found (zip_right (IsEdgeOf []) (sink_state a).edges (state_at c a.states).edges move.index move.edge s.edges move.there)
        where
          found : (x : RawEdge) × ((slice_get (sink_state a).edges move.index ≡ Some x) × IsEdgeOf [] x move.edge) → t ≡ a.states
          found (x, (at, meant)) = single move.index at
            where
              single : (k : ℕ) → slice_get (sink_state a).edges k ≡ Some x → t ≡ a.states
              single zero e =
                  let same : a.states ∷ [] ≡ x.targets = cc in one a.states t (same ∙ sym meant.targets ∙ move.enters)
              single (suc k) e = absurd (nothing e)
                where
                  nothing : None ≡ Some x → ⊥
                  nothing f = cc

      go : (a.states < a.states) ⊎ ((a.states ≡ a.states) × (written.sink ≡ true)) → t ≡ a.states
      go (inl less) = absurd (omega (arith, less))
      go (inr (same, sink)) = by_sink (sink_meant a c raw written means is_c sink)

  -- it begins where the strategy begins, or in the sink if the strategy has no start
  pub own_start : (s : ℕ) → IsStart a s → IsStart c s
  own_start s begins =
      subst (λ (starts : List (List ℕ)). Contains starts (s ∷ [])) (sym (starts_are a c raw written means is_c))
      (0, omega arith, only a.starts deterministic.one_start begins)
    where
      only : (starts : List (List ℕ)) → length starts ≤ 1 → Contains starts (s ∷ []) → slice_index_or starts 0 (a.states ∷ []) ≡ s ∷ []
      only [] few (k, below, here) = absurd (omega arith)
      only (x ∷ []) few (zero, below, here) = here
      only (x ∷ []) few (suc k, below, here) = absurd (omega arith)
      only (x ∷ y ∷ rest) few at = absurd (omega arith)

  pub rest_start : (s : ℕ) → IsStart c s → IsStart a s ⊎ (s ≡ a.states)
  rest_start s begins = go a.starts refl
    where
      begins_so : Contains (slice_index_or a.starts 0 (a.states ∷ []) ∷ []) (s ∷ [])
      begins_so = subst (λ (starts : List (List ℕ)). Contains starts (s ∷ [])) (starts_are a c raw written means is_c) begins

      head : (x y : List ℕ) → Contains (x ∷ []) y → x ≡ y
      head x y (zero, below, here) = here
      head x y (suc k, below, here) = absurd (omega arith)

      one : (x y : ℕ) → x ∷ [] ≡ y ∷ [] → y ≡ x
      one x y e = cc

      go : (starts : List (List ℕ)) → a.starts ≡ starts → IsStart a s ⊎ (s ≡ a.states)
      go [] e =
          inr (one a.states s (sym (ap (λ (starts : List (List ℕ)). slice_index_or starts 0 (a.states ∷ [])) e)
          ∙ head (slice_index_or a.starts 0 (a.states ∷ [])) (s ∷ []) begins_so))
      go (x ∷ rest) e =
          let here : x ≡ s ∷ [] =
          sym (ap (λ (starts : List (List ℕ)). slice_index_or starts 0 (a.states ∷ [])) e) ∙ head (slice_index_or a.starts 0 (a.states ∷ [])) (s ∷ []) begins_so in
          inl (subst (λ (starts : List (List ℕ)). Contains starts (s ∷ [])) (sym e) (0, omega arith, here))
