-- Propositions that letters leave open or fix, by the labels of the automaton of a word.
use Rattle.std.proofs.Common.{◌≡◌, ◌⊎◌, inl, inr, ℕ, ◌<◌, ◌≤◌, Bool, true, false, not, List, [], length, Contains, Option, Some, IfSome, refl, sym, ap, subst, ◌∙◌}
use Rattle.std.specs.Prelude.{slice_index_or}
use Rattle.std.specs.Str.{bytes_eq}
use Rattle.std.proofs.lemmas.Bool.{cases_lt, false≢true}
use Rattle.std.proofs.lemmas.List.{get_or_default, get_or_past}
use Rattle.std.proofs.lemmas.List.Elements.{All-contains}
use Rattle.std.proofs.lemmas.List.Sums.{passes_at_first}
use Rattle.std.proofs.lemmas.Slice.Eq.{bytes_eq-Decides}
use Rattle.omega_hoa_label.specs.Label.{LabelTree, propositions, truth}
use Rattle.omega_hoa_label.specs.Raw.{RawLabelTree}
use Rattle.omega_hoa_automaton.specs.Automaton.{Description, IsAutomaton, IsEdge, IsLabel, IsState}
use Rattle.omega_hoa_automaton.specs.declared.edge.Edge.{Edge}
use Rattle.omega_hoa_automaton.specs.declared.state.State.{State}
use Rattle.omega_lang_product.proofs.Membership.{Contains-here}
use Rattle.omega_lang_lasso_word.specs.Admitted.{holds}
use Rattle.omega_lang_lasso_word.specs.declared.symbolic_word.SymbolicWord.{SymbolicWord}
use Rattle.omega_lang_product.proofs.Holding.{and_both, both_and, truth_same}
use Rattle.omega_lang_word_laws.proofs.naming.Named.{own_place}
use Rattle.omega_lang_inclusion.specs.OneWord.{Fixes, HasOpenLetter, IsOneWordFor, LeavesOpen}
use Rattle.omega_lang_inclusion.specs.Opening.{literal_of, place_among}
use Rattle.omega_lang_inclusion.specs.private.Opened.{CanBeBoth, HasOpenName, first_label}
use Rattle.omega_lang_inclusion.specs.Written.{IsWordAutomaton, letter_count, letters_of}
use Rattle.omega_lang_inclusion.proofs.Edges.{IsLetterState, letter_of_state, state_of_letter}
use Rattle.omega_lang_inclusion.proofs.WordLetters.{letter_worth}

-- at the place of a name among others is this name, or else nothing
own_name : (names : List (List ℕ)) (name : List ℕ) → slice_index_or names (place_among names name) name ≡ name
own_name names name = go (cases_lt at (length names))
  where
    at : ℕ
    at = place_among names name

    go : (at < length names) ⊎ (length names ≤ at) → slice_index_or names at name ≡ name
    go (inl below) = sym ((bytes_eq-Decides name (slice_index_or names at name)).0 (passes_at_first (bytes_eq name) names name below))
    go (inr past) = get_or_past names at name past

not_true : (b : Bool) → not b ≡ true → b ≡ false
not_true true e = absurd (false≢true e)
not_true false e = refl

module _ (word : SymbolicWord) (one : Description) (means : IsWordAutomaton word one) (automaton : IsAutomaton one) where
  abbrev names : List (List ℕ)
  names = one.propositions

  -- what holds by names, by the numbers of names; a number without a name stands for this one
  abbrev by_numbers : List ℕ → (List ℕ → Bool) → ℕ → Bool
  by_numbers name held number = held (slice_index_or names number name)

  -- what holds by numbers, by names
  abbrev by_names : (ℕ → Bool) → List ℕ → Bool
  by_names held name = held (place_among names name)

  module _ (letter : RawLabelTree) (state : State) (listed : Contains one.defined state) (is : IsLetterState letter state) where
    labelled : first_label state.edges ≡ Some is.tree
    labelled = ap first_label is.only ∙ is.label

    label_is : IsLabel one is.tree
    label_is =
        let kept : IsState one state = All-contains (IsState one) one.defined state automaton.states listed in
        let has : Contains state.edges is.edge = subst (λ (edges : List Edge). Contains edges is.edge) (sym is.only) (Contains-here is.edge []) in
        let edge : IsEdge one is.edge = All-contains (IsEdge one) state.edges is.edge kept.edges has in
        subst (λ (label : Option LabelTree). IfSome label (IsLabel one)) is.label edge.label

    below : (p : ℕ) → Contains (propositions is.tree) p → p < length names
    below p h = All-contains (λ (m : ℕ). m < length names) (propositions is.tree) p label_is.below h

    -- the label is true where the letter is
    said : (held : List ℕ → Bool) → truth (λ number. held (slice_index_or names number [])) is.tree ≡ holds word.names held letter
    said held =
        letter_worth (λ number. held (slice_index_or names number [])) letter is.tree is.meant
        ∙ ap (λ (all : List (List ℕ)). holds all held letter) means.propositions

    numbered : (name : List ℕ) (held : List ℕ → Bool) → truth (by_numbers name held) is.tree ≡ holds word.names held letter
    numbered name held =
        truth_same (by_numbers name held) (λ number. held (slice_index_or names number [])) is.tree
        (λ p h. ap held (get_or_default names p name [] (below p h)))
        ∙ said held

    named : (held : ℕ → Bool) → holds word.names (by_names held) letter ≡ truth held is.tree
    named held =
        sym (said (by_names held))
        ∙ truth_same (λ number. by_names held (slice_index_or names number [])) held is.tree
        (λ p h. ap held (own_place names automaton.unlike p (below p h)))

    module _ (name : List ℕ) where
      abbrev number : ℕ
      number = place_among names name

      abbrev Both : Option LabelTree → Type 0
      Both label = CanBeBoth (literal_of number true) (literal_of number false) label

      pub opened : Both (first_label state.edges) → LeavesOpen word.names letter name
      opened open' =
          let both : Both (Some is.tree) = subst Both labelled open' in
          let with = and_both (truth both.0.0 is.tree) (both.0.0 number) both.0.1 in
          let without = and_both (truth both.1.0 is.tree) (not (both.1.0 number)) both.1.1 in
          record {
            held = by_names both.0.0;
            held_true = named both.0.0 ∙ with.0;
            with_name = with.1;
            other = by_names both.1.0;
            other_true = named both.1.0 ∙ without.0;
            without_name = not_true (both.1.0 number) without.1;
          }

      apart : ¬ Both (first_label state.edges) → (with_it without : List ℕ → Bool) → holds word.names with_it letter ≡ true → holds word.names without letter ≡ true
          → with_it name ≡ true → without name ≡ false → ⊥
      apart closed with_it without yes_true no_true has lacks =
          closed (subst Both (sym labelled) (
            (
              by_numbers name with_it,
              both_and (truth (by_numbers name with_it) is.tree) (by_numbers name with_it number) (numbered name with_it ∙ yes_true) (ap with_it (own_name names name) ∙ has),
            ),
            (
              by_numbers name without,
              both_and (truth (by_numbers name without) is.tree) (not (by_numbers name without number)) (numbered name without ∙ no_true)
                  (ap not (ap without (own_name names name) ∙ lacks)),
            ),
          ))

      pub fixed : ¬ Both (first_label state.edges) → Fixes word.names letter name
      fixed closed held other held_true other_true = go (held name) (other name) refl refl
        where
          go : (a b : Bool) → held name ≡ a → other name ≡ b → held name ≡ other name
          go true true h o = h ∙ sym o
          go false false h o = h ∙ sym o
          go true false h o = absurd (apart closed held other held_true other_true h o)
          go false true h o = absurd (apart closed other held other_true held_true o h)

  abbrev letters : List RawLabelTree
  letters = letters_of word

  -- a name that is open for some state is left open by its letter
  pub open_letter : (a : Description) → HasOpenName one a.propositions → HasOpenLetter word a
  open_letter a (name, has, (state, there, both)) =
      let found = letter_of_state (letter_count word) (length word.stem) 0 letters one.defined means.defined state there in
      record { letter = found.0; listed = found.1; name = name; of_automaton = has; leaves_open = opened found.0 state there found.2 name both }

  -- if none is open, each letter fixes each
  pub one_word : (a : Description) → ¬ HasOpenName one a.propositions → IsOneWordFor word a
  one_word a none letter name there has =
      let found = state_of_letter (letter_count word) (length word.stem) 0 letters one.defined means.defined letter there in
      fixed letter found.0 found.1 found.2 name (λ both. none (name, has, (found.0, found.1, both)))
