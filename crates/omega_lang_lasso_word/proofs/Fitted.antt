-- The letters of edges are true where the edges can be taken, and words that fit are accepted.
use Rattle.std.proofs.Common.{◌≡◌, ℕ, zero, suc, Bool, true, ◌↔◌, List, [], ◌∷◌, ◌++◌, map, codes, Option, Some, None, refl, sym, ap, ap₂, ◌∙◌, subst, unwrap_or}
use Rattle.std.specs.List.{AllByRecursion}
use Rattle.omega_hoa_label.specs.Label.{LabelTree, truth}
use Rattle.omega_hoa_automaton.specs.Automaton.{BodyEdge, Description, edge_at}
use Rattle.omega_lang_runs.specs.Lasso.{IsAcceptingLasso, Leads, label_of}
use Rattle.omega_lang_runs.specs.Words.{Allows, CanBeTaken, index_in}
use Rattle.omega_lang_lasso_word.specs.Form.{others_form, stem_form}
use Rattle.omega_lang_lasso_word.specs.Formulas.{HasTruth, formula}
use Rattle.omega_lang_lasso_word.specs.Fitting.{Fits, along, text_of_letters}
use Rattle.omega_lang_lasso_word.specs.Letters.{letter_at, letter_text, text_of_letter}
use Rattle.omega_lang_lasso_word.specs.WordText.{word_text}
use Rattle.omega_lang_lasso_word.specs.Laws.{FittingWordsAreAccepted, HasStrings, LettersAreTrueWhereEdgesCanBeTaken, WordsFitWhereEdgesCanBeTaken, by_number}
use Rattle.omega_lang_lasso_word.proofs.Admitted.{admitted_words_are_accepted}
use Rattle.omega_lang_lasso_word.proofs.Lines.{IsLetter, IsSomeLetter, all_along, along_map, first_along, letters_same, others_along}
use Rattle.omega_lang_lasso_word.proofs.Said.{agrees, agrees_iff, conjuncts_said, valuation_said}
use Rattle.omega_lang_lasso_word.proofs.Truths.{texts_have_one_truth}

some_is : {A : Type 0} (x y : A) → Some x ≡ Some y → x ≡ y
some_is {A} x y e = ap (λ (o : Option A). unwrap_or o x) e

-- an edge has this number
abbrev HasEdge : Description → ℕ → Type 0
HasEdge a number = (edge : BodyEdge) × (edge_at a number ≡ Some edge)

module _ (a : Description) (number : ℕ) (edge : BodyEdge) (held : List ℕ → Bool) (strings : HasStrings a) (numbered : edge_at a number ≡ Some edge) where
  -- what is allowed is allowed of the edge with this number
  allowed_of : (label : Option LabelTree) → label_of edge ≡ label → CanBeTaken a number (by_number a held) → Allows a number label (by_number a held)
  allowed_of label is taken =
      let same : taken.edge ≡ edge = some_is taken.edge edge (sym taken.numbered ∙ numbered) in
      subst (λ (l : Option LabelTree). Allows a number l (by_number a held)) (ap label_of same ∙ is) taken.allowed

  taken_of : (label : Option LabelTree) → label_of edge ≡ label → Allows a number label (by_number a held) → CanBeTaken a number (by_number a held)
  taken_of label is allowed = record {
    edge = edge;
    numbered = numbered;
    allowed = subst (λ (l : Option LabelTree). Allows a number l (by_number a held)) (sym is) allowed;
  }

  letter_of : (label : Option LabelTree) → label_of edge ≡ label
      → (value : Bool) × HasTruth held formula (text_of_letter a.propositions (index_in a.defined number) label) value × ((value ≡ true) ↔ CanBeTaken a number (by_number a held))
  letter_of None is =
      let index = index_in a.defined number in
      let same = agrees_iff held index a.propositions in (
        agrees held index 0 a.propositions,
        valuation_said held index a.propositions strings,
        (λ agree. taken_of None is (same.0 agree), λ taken. same.1 (allowed_of None is taken)),
      )
  letter_of (Some label) is = (
    truth (by_number a held) label,
    conjuncts_said held a.propositions strings label,
    (λ holds. taken_of (Some label) is holds, λ taken. allowed_of (Some label) is taken),
  )

-- the letter of an edge is true where the edge can be taken
pub letters_are_true_where_edges_can_be_taken : LettersAreTrueWhereEdgesCanBeTaken
letters_are_true_where_edges_can_be_taken a number edge held strings numbered =
    subst (λ (found : Option BodyEdge). (value : Bool) × HasTruth held formula (letter_at a number found) value × ((value ≡ true) ↔ CanBeTaken a number (by_number a held)))
    (sym numbered) (letter_of a number edge held strings numbered (label_of edge) refl)

-- the edges of a way are there
edges_there : (a : Description) (from : ℕ) (numbers : List ℕ) (to : ℕ) → Leads a from numbers to → AllByRecursion (HasEdge a) numbers
edges_there a from [] to leads = tt
edges_there a from (number ∷ numbers) to leads = ((leads.1.edge, leads.1.numbered), edges_there a leads.0 numbers to leads.2)

-- what holds of each part holds along the sequence
each_along : (P : ℕ → Type 0) (first : ℕ) (others stem : List ℕ) → AllByRecursion P stem → P first → AllByRecursion P others → (i : ℕ) → P (along first others stem i)
each_along P first others [] all here rest zero = here
each_along P first others [] all here rest (suc i) = each_along P first others others rest here rest i
each_along P first others (x ∷ stem) all here rest zero = all.0
each_along P first others (x ∷ stem) all here rest (suc i) = each_along P first others stem all.1 here rest i

module _ (a : Description) where
  stem_letters : (stem : List ℕ) → stem_form (letter_text a) stem ≡ stem_form (λ (letter : List ℕ). letter) (map (letter_text a) stem)
  stem_letters [] = refl
  stem_letters (number ∷ stem) = ap (λ (t : List ℕ). (letter_text a number ++ codes "; ") ++ t) (stem_letters stem)

  others_letters : (others : List ℕ) → others_form (letter_text a) others ≡ others_form (λ (letter : List ℕ). letter) (map (letter_text a) others)
  others_letters [] = refl
  others_letters (number ∷ others) = ap (λ (t : List ℕ). (codes "; " ++ letter_text a number) ++ t) (others_letters others)

  -- the text of a word is that of its letters
  word_letters : (stem : List ℕ) (first : ℕ) (others : List ℕ)
      → word_text a stem (first ∷ others) ≡ text_of_letters (map (letter_text a) stem) (letter_text a first) (map (letter_text a) others)
  word_letters stem first others =
      ap₂ (λ (s o : List ℕ). s ++ (codes "cycle{" ++ ((letter_text a first ++ o) ++ codes "}"))) (stem_letters stem) (others_letters others)

  module _ (strings : HasStrings a) where
    is_letter : (number : ℕ) → HasEdge a number → IsLetter (letter_text a number)
    is_letter number there held =
        let said = letters_are_true_where_edges_can_be_taken a number there.0 held strings there.1 in
        (said.0, said.1)

    are_letters : (numbers : List ℕ) → AllByRecursion (HasEdge a) numbers → AllByRecursion IsLetter (map (letter_text a) numbers)
    are_letters [] there = tt
    are_letters (number ∷ numbers) there = (is_letter number there.0, are_letters numbers there.1)

    module _ (stem : List ℕ) (first : ℕ) (others : List ℕ) (word : ℕ → List ℕ → Bool) (lasso : IsAcceptingLasso a stem (first ∷ others)) where
      stem_there : AllByRecursion (HasEdge a) stem
      stem_there = edges_there a lasso.lasso.start stem lasso.lasso.loop_state lasso.lasso.stem_leads

      cycle_there : AllByRecursion (HasEdge a) (first ∷ others)
      cycle_there = edges_there a lasso.lasso.loop_state (first ∷ others) lasso.lasso.loop_state lasso.lasso.cycle_leads

      edge_along : (i : ℕ) → HasEdge a (along first others stem i)
      edge_along = each_along (HasEdge a) first others stem stem_there cycle_there.0 cycle_there.1

      -- a word that fits takes the edges
      taken_along : Fits (word_text a stem (first ∷ others)) word → (i : ℕ) → CanBeTaken a (along first others stem i) (by_number a (word i))
      taken_along fits i =
          let each : (j : ℕ) → IsSomeLetter (along fits.first fits.others fits.stem j) = λ j. (word j, (true, fits.true_there j)) in
          let same = letters_same (map (letter_text a) stem) fits.stem (letter_text a first) fits.first (map (letter_text a) others) fits.others
          (are_letters stem stem_there) (is_letter first cycle_there.0) (are_letters others cycle_there.1)
          (all_along IsSomeLetter fits.first fits.others fits.stem each) (first_along IsSomeLetter fits.first fits.others fits.stem each)
          (others_along IsSomeLetter fits.first fits.others fits.stem each)
          (sym (word_letters stem first others) ∙ fits.written) in
          let here : along fits.first fits.others fits.stem i ≡ letter_text a (along first others stem i) =
          sym (ap (λ (s : List (List ℕ)). along (letter_text a first) (map (letter_text a) others) s i) same.0
          ∙ ap (λ (f : List ℕ). along f (map (letter_text a) others) fits.stem i) same.1
          ∙ ap (λ (o : List (List ℕ)). along fits.first o fits.stem i) same.2)
          ∙ along_map (letter_text a) first others stem i in
          let holds : HasTruth (word i) formula (letter_text a (along first others stem i)) true =
          subst (λ (t : List ℕ). HasTruth (word i) formula t true) here (fits.true_there i) in
          let said = letters_are_true_where_edges_can_be_taken a (along first others stem i) (edge_along i).0 (word i) strings (edge_along i).1 in
          said.2.0 (texts_have_one_truth (word i) (letter_text a (along first others stem i)) said.0 true said.1 holds)

      -- a word that takes the edges fits
      fits_along : ((i : ℕ) → CanBeTaken a (along first others stem i) (by_number a (word i))) → Fits (word_text a stem (first ∷ others)) word
      fits_along taken = record {
        stem = map (letter_text a) stem;
        first = letter_text a first;
        others = map (letter_text a) others;
        written = word_letters stem first others;
        true_there = λ i. (let said = letters_are_true_where_edges_can_be_taken a (along first others stem i) (edge_along i).0 (word i) strings (edge_along i).1 in
            subst (λ (t : List ℕ). HasTruth (word i) formula t true) (sym (along_map (letter_text a) first others stem i))
            (subst (λ (v : Bool). HasTruth (word i) formula (letter_text a (along first others stem i)) v) (said.2.1 (taken i)) said.1));
      }

-- words fit where the edges can be taken
pub words_fit_where_edges_can_be_taken : WordsFitWhereEdgesCanBeTaken
words_fit_where_edges_can_be_taken a stem first others word strings lasso =
    (taken_along a strings stem first others word lasso, fits_along a strings stem first others word lasso)

-- words that fit are accepted
pub fitting_words_are_accepted : FittingWordsAreAccepted
fitting_words_are_accepted a stem first others word strings plain lasso fits =
    admitted_words_are_accepted a stem first others (λ i. by_number a (word i)) plain lasso (taken_along a strings stem first others word lasso fits)
