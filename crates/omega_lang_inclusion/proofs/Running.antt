-- The runs of the automaton of a word: it accepts exactly the words that are admitted.
use Rattle.std.proofs.Common.{◌≡◌, ℕ, zero, suc, ◌+◌, ◌<◌, Bool, true, IsTrue, List, [], ◌∷◌, ◌++◌, length, get_or, Contains, Option, Some, refl, sym, ap, ◌∙◌, subst, arith, append_assoc, length-append, if◌then◌else◌, eq-eqb}
use Rattle.std.specs.Prelude.{slice_get, slice_index_or}
use Rattle.std.specs.List.{flat_map}
use Rattle.std.specs.Option.{IfSome}
use Rattle.std.proofs.lemmas.Bool.{ne_eqb}
use Rattle.std.proofs.lemmas.Option.{slice_get-get_or, slice_get_within}
use Rattle.omega_hoa_label.specs.Label.{LabelTree, truth}
use Rattle.omega_hoa_label.specs.Raw.{RawLabelTree}
use Rattle.omega_hoa_acceptance.specs.Acceptance.{AccTree}
use Rattle.omega_hoa_acceptance.specs.Acceptance as acc
use Rattle.omega_hoa_automaton.specs.Automaton.{BodyEdge, Description, edge_at, edges_from}
use Rattle.omega_lang_lasso_word.specs.Fitting.{along}
use Rattle.omega_lang_runs.specs.Lasso.{IsStart, marks_at}
use Rattle.omega_lang_runs.specs.Runs.{Satisfies}
use Rattle.omega_lang_runs.specs.Words.{Allows, IsAccepted}
use Rattle.omega_hoa_satisfiable.specs.Satisfiable.{IsSatisfiable}
use Rattle.omega_lang_lasso_word.specs.Admitted.{Admits, holds, is_true_letter}
use Rattle.omega_lang_lasso_word.specs.declared.symbolic_word.SymbolicWord.{SymbolicWord}
use Rattle.omega_text.specs.NamedWords.{NamedWord}
use Rattle.omega_lang_word_laws.specs.NamedWords.{part_of}
use Rattle.omega_lang_inclusion.specs.Written.{IsWordAutomaton, letter_count, letters_of, next_state}
use Rattle.omega_lang_inclusion.proofs.Edges.{HasLetterEdge, IsLetterEdge, edges_counted, edges_there}
use Rattle.omega_lang_inclusion.proofs.WordLetters.{letter_worth, some_is}

-- an element of a list within it
element : {X : Type 0} (xs : List X) (k : ℕ) → k < length xs → (x : X) × (slice_get xs k ≡ Some x)
element [] k below = absurd (omega arith)
element {X = X} (x ∷ xs) k below = (get_or (x ∷ xs) k x, slice_get-get_or (x ∷ xs) k x below)

-- the element at the end of a front
seam : {X : Type 0} (front : List X) (x : X) (rest : List X) → slice_get (front ++ x ∷ rest) (length front) ≡ Some x
seam [] x rest = refl
seam (y ∷ front) x rest = seam front x rest

-- the state that is reached after `i` steps from one
abbrev position : (count back from i : ℕ) → ℕ
position count back from zero = from
position count back from (suc i) = position count back (next_state count back from) i

-- one step more
position_more : (count back from i : ℕ) → position count back from (suc i) ≡ next_state count back (position count back from i)
position_more count back from zero = refl
position_more count back from (suc i) = position_more count back (next_state count back from) i

-- after the last letter of a cycle comes its first
cycle_again : {A : Type 0} (first : A) (others : List A) (i : ℕ) → along first others [] i ≡ along first others (first ∷ others) i
cycle_again first others zero = refl
cycle_again first others (suc i) = refl

-- the letters of a stem and a cycle, written after one another
whole_along : {A : Type 0} (first : A) (others stem : List A) (i : ℕ) → along first others stem i ≡ along first others (stem ++ first ∷ others) i
whole_along first others [] i = cycle_again first others i
whole_along first others (x ∷ stem) zero = refl
whole_along first others (x ∷ stem) (suc i) = whole_along first others stem i

next_within : (count back number : ℕ) → number + 1 < count → next_state count back number ≡ number + 1
next_within count back number below = ap (λ (b : Bool). if b then back else number + 1) (ne_eqb (number + 1) count (λ same. omega arith))

next_last : (count back number : ℕ) → number + 1 ≡ count → next_state count back number ≡ back
next_last count back number last = ap (λ (b : Bool). if b then back else number + 1) (eq-eqb (number + 1) count last)

-- the letter of the state that is reached is the one along the word
module _ {A : Type 0} (stem others : List A) (first : A) (count : ℕ) (counted : length (stem ++ first ∷ others) ≡ count) where
  abbrev all : List A
  all = stem ++ first ∷ others

  reached : (i : ℕ) (front rest : List A) (x : A) → all ≡ front ++ x ∷ rest
      → slice_get all (position count (length stem) (length front) i) ≡ Some (along first others (x ∷ rest) i)
  reached zero front rest x split = ap (λ (l : List A). slice_get l (length front)) split ∙ seam front x rest
  reached (suc i) front [] x split =
      let last : length front + 1 ≡ count = omega (arith, ap length split, length-append front (x ∷ []), counted) in
      ap (λ n. slice_get all (position count (length stem) n i)) (next_last count (length stem) (length front) last)
      ∙ (reached i stem others first refl ∙ ap Some (sym (cycle_again first others i)))
  reached (suc i) front (y ∷ rest) x split =
      let below : length front + 1 < count = omega (arith, ap length split, length-append front (x ∷ y ∷ rest), counted) in
      let longer : length (front ++ x ∷ []) ≡ length front + 1 = length-append front (x ∷ []) in
      ap (λ n. slice_get all (position count (length stem) n i)) (next_within count (length stem) (length front) below ∙ sym longer)
      ∙ reached i (front ++ x ∷ []) rest y (split ∙ sym (append_assoc front (x ∷ []) (y ∷ rest)))

  reached_along : (i : ℕ) → slice_get all (position count (length stem) 0 i) ≡ Some (along first others stem i)
  reached_along i = go stem refl
    where
      go : (s : List A) → s ≡ stem → slice_get all (position count (length stem) 0 i) ≡ Some (along first others stem i)
      go [] is =
          reached i [] others first (ap (λ (l : List A). l ++ first ∷ others) (sym is))
          ∙ ap Some (sym (cycle_again first others i) ∙ ap (λ (l : List A). along first others l i) is)
      go (x ∷ s) is =
          reached i [] (s ++ first ∷ others) x (ap (λ (l : List A). l ++ first ∷ others) (sym is))
          ∙ ap Some (sym (whole_along first others (x ∷ s) i) ∙ ap (λ (l : List A). along first others l i) is)

module _ (word : SymbolicWord) (a : Description) (means : IsWordAutomaton word a) where
  abbrev count : ℕ
  count = letter_count word

  abbrev back : ℕ
  back = length word.stem

  abbrev letters : List RawLabelTree
  letters = letters_of word

  abbrev place : ℕ → ℕ
  place i = position count back 0 i

  abbrev letter_at : ℕ → RawLabelTree
  letter_at i = along word.first word.others word.stem i

  counted : length letters ≡ count
  counted = omega (arith, length-append word.stem (word.first ∷ word.others))

  reads : (i : ℕ) → slice_get letters (place i) ≡ Some (letter_at i)
  reads = reached_along word.stem word.others word.first count counted

  -- the edge of a letter
  edge_of : (k : ℕ) (letter : RawLabelTree) → slice_get letters k ≡ Some letter → HasLetterEdge count back k (flat_map edges_from a.defined) k letter
  edge_of k letter there =
      subst (λ n. HasLetterEdge count back n (flat_map edges_from a.defined) k letter) (let e : 0 + k ≡ k = omega arith in e)
      (edges_there count back 0 letters a.defined means.defined k letter there)

  -- each edge is one of a letter
  pub some_letter : (k : ℕ) (edge : BodyEdge) → edge_at a k ≡ Some edge → (letter : RawLabelTree) × (slice_get letters k ≡ Some letter) × IsLetterEdge count back k letter edge
  some_letter k edge numbered =
      let size = edges_counted count back 0 letters a.defined means.defined in
      let below : k < length letters = omega (arith, slice_get_within (flat_map edges_from a.defined) k edge numbered) in
      let found = element letters k below in
      let has = edge_of k found.0 found.1 in
      let same : has.edge ≡ edge = some_is has.edge edge (sym has.there ∙ numbered) in
      (found.0, found.1, subst (IsLetterEdge count back k found.0) same has.is)

  module _ (named : NamedWord) where
    abbrev held : ℕ → ℕ → Bool
    held i = part_of a.propositions named i

    -- what holds of a letter holds of the label of its edge, by the names of either
    held_same : (i : ℕ) (letter : RawLabelTree) → is_true_letter (held i) letter ≡ holds word.names (named i) letter
    held_same i letter = ap (λ (names : List (List ℕ)). is_true_letter (λ number. named i (slice_index_or names number [])) letter) means.propositions

    label_true : (i k : ℕ) (letter : RawLabelTree) (edge : BodyEdge) (is : IsLetterEdge count back k letter edge) → truth (held i) is.tree ≡ holds word.names (named i) letter
    label_true i k letter edge is = letter_worth (held i) letter is.tree is.meant ∙ held_same i letter

    -- a start is the first state
    start_is : (state : ℕ) → IsStart a state → state ≡ 0
    start_is state start = go start.0 start.1 start.2
      where
        go : (k : ℕ) → k < length a.starts → slice_index_or a.starts k (state ∷ []) ≡ state ∷ [] → state ≡ 0
        go zero below is =
            let e : 0 ∷ [] ≡ state ∷ [] = sym (ap (λ (l : List (List ℕ)). slice_index_or l 0 (state ∷ [])) means.starts) ∙ is in
            sym (ap (λ (m : List ℕ). slice_index_or m 0 0) e)
        go (suc k) below is = absurd (omega (arith, ap length means.starts))

    module _ (accepted : IsAccepted a (part_of a.propositions named)) where
      steps_is : (i : ℕ) → (accepted.states i ≡ place i) × (accepted.edges i ≡ place i)
      steps_is i = (states_is i, edges_is i)
        where
          edge_leaves : (i : ℕ) → accepted.edges i ≡ accepted.states i
          edge_leaves i =
              let step = accepted.accepting.run.steps i in
              let found = some_letter (accepted.edges i) step.edge step.numbered in
              sym found.2.leaves ∙ step.leaves

          state_enters : (i : ℕ) → accepted.states (i + 1) ≡ next_state count back (accepted.states i)
          state_enters i =
              let step = accepted.accepting.run.steps i in
              let found = some_letter (accepted.edges i) step.edge step.numbered in
              ap (λ (l : List ℕ). slice_index_or l 0 0) (sym step.enters ∙ found.2.enters) ∙ ap (next_state count back) (edge_leaves i)

          states_is : (i : ℕ) → accepted.states i ≡ place i
          states_is zero = start_is (accepted.states 0) accepted.accepting.run.begins
          states_is (suc i) =
              ap accepted.states (let e : suc i ≡ i + 1 = omega arith in e)
              ∙ (state_enters i ∙ (ap (next_state count back) (states_is i) ∙ sym (position_more count back 0 i)))

          edges_is : (i : ℕ) → accepted.edges i ≡ place i
          edges_is i = edge_leaves i ∙ states_is i

      -- a word that is accepted is admitted
      pub accepted_admits : Admits word named
      accepted_admits i =
          let taken = accepted.taken i in
          let found = some_letter (accepted.edges i) taken.edge taken.numbered in
          let same : found.0 ≡ letter_at i = some_is found.0 (letter_at i) (sym found.1 ∙ (ap (slice_get letters) (steps_is i).1 ∙ reads i)) in
          let allowed : IsTrue (truth (held i) found.2.tree) =
          subst (λ (l : Option LabelTree). Allows a (accepted.edges i) l (held i)) found.2.label taken.allowed in
          sym (label_true i (accepted.edges i) found.0 taken.edge found.2 ∙ ap (holds word.names (named i)) same) ∙ allowed

    module _ (admitted : Admits word named) where
      found : (i : ℕ) → HasLetterEdge count back (place i) (flat_map edges_from a.defined) (place i) (letter_at i)
      found i = edge_of (place i) (letter_at i) (reads i)

      holds_there : (i : ℕ) → IsTrue (truth (held i) (found i).is.tree)
      holds_there i = label_true i (place i) (letter_at i) (found i).edge (found i).is ∙ admitted i

      starts : IsStart a 0
      starts = subst (λ (s : List (List ℕ)). Contains s (0 ∷ [])) (sym means.starts) (0, omega arith, refl)

      satisfied : (i : ℕ → List ℕ) → Satisfies i a.acceptance
      satisfied marks = subst (Satisfies marks) (some_is (acc.constant true) a.acceptance means.acceptance) refl

      -- a word that is admitted is accepted
      pub admitted_accepts : IsAccepted a (part_of a.propositions named)
      admitted_accepts = record {
        states = place;
        edges = place;
        accepting = record {
          run = record {
            begins = starts;
            steps = λ i. record {
              edge = (found i).edge;
              numbered = (found i).there;
              usable = subst (λ (l : Option LabelTree). IfSome l IsSatisfiable) (sym (found i).is.label) (held i, holds_there i);
              leaves = (found i).is.leaves;
              enters = (found i).is.enters ∙ ap (λ n. n ∷ []) (sym (position_more count back 0 i) ∙ ap place (let e : suc i ≡ i + 1 = omega arith in e));
            };
          };
          accepted = satisfied (λ i. marks_at a (place i));
        };
        taken = λ i. record {
          edge = (found i).edge;
          numbered = (found i).there;
          allowed = subst (λ (l : Option LabelTree). Allows a (place i) l (held i)) (sym (found i).is.label) (holds_there i);
        };
      }
