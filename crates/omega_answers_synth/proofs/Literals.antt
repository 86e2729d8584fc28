-- A letter, literal by literal.
use Rattle.std.proofs.Common.{◌≡◌, ℕ, suc, ◌-◌, ◌≤◌, Bool, true, false, List, [], ◌∷◌, ◌++◌, codes, drop, get_or, length, take, refl, sym, ap, ◌∙◌, append_assoc, arith}
use Rattle.std.proofs.lemmas.List.{append-nil, take_all}
use Rattle.omega_hoa_label.specs.Label.{LabelTree, conjunction}
use Rattle.omega_lang_lasso_word.specs.Letters.{label_words}
use Rattle.omega_synth_game.specs.RoundsOf.{holds_in}
use Rattle.omega_synth_text.specs.Winner.{letter_label, literal, with_literals}
use Rattle.omega_graph.specs.Graph.{listed}
use Rattle.omega_answers_synth.specs.private.Literals.{literal_words, literals_after}

module _ (names : List (List ℕ)) (letter : List ℕ) where
  -- a label that needs no parentheses, and literals after it
  words_after : (label : LabelTree) (others : List ℕ) → label_words 0 names label ≡ label_words 1 names label
      → label_words 0 names (with_literals (holds_in letter) label others) ≡ label_words 1 names label ++ literals_after names letter others
  words_after label [] bare = bare ∙ sym (append-nil (label_words 1 names label))
  words_after label (p ∷ others) bare =
      words_after (conjunction label (literal (holds_in letter p) p)) others refl
      ∙ append_assoc (label_words 1 names label) (codes " & " ++ literal_words names (holds_in letter p) p) (literals_after names letter others)

  literal_bare : (holds : Bool) (p : ℕ) → label_words 0 names (literal holds p) ≡ literal_words names holds p
  literal_bare true p = refl
  literal_bare false p = refl

  -- the first literal, and the others after it
  pub letter_whole : (inputs : List ℕ) (first : ℕ) (others out mid new : List ℕ) → inputs ≡ first ∷ others
      → mid ≡ out ++ literal_words names (holds_in letter first) first → new ≡ mid ++ literals_after names letter others
      → new ≡ out ++ label_words 0 names (letter_label (holds_in letter) inputs)
  letter_whole inputs first others out mid new is begun then =
      then
      ∙ ap (λ (x : List ℕ). x ++ literals_after names letter others) begun
      ∙ append_assoc out (literal_words names (holds_in letter first) first) (literals_after names letter others)
      ∙ ap (λ (x : List ℕ). out ++ x) (sym (words_after (literal (holds_in letter first) first) others (literal_bare (holds_in letter first) first)))
      ∙ ap (λ (xs : List ℕ). out ++ label_words 0 names (letter_label (holds_in letter) xs)) (sym is)

  -- the first of the inputs, and those after it
  pub letter_begun : (inputs : List ℕ) (flag : Bool) (out mid new : List ℕ) → 1 ≤ length inputs → flag ≡ listed letter (get_or inputs 0 0)
      → mid ≡ out ++ literal_words names flag (get_or inputs 0 0) → new ≡ mid ++ literals_after names letter (take (length inputs - 1) (drop 1 inputs))
      → new ≡ out ++ label_words 0 names (letter_label (holds_in letter) inputs)
  letter_begun [] flag out mid new some holds begun then = absurd (omega (arith, some))
  letter_begun (p ∷ others) flag out mid new some holds begun then =
      letter_whole (p ∷ others) p others out mid new refl
      (begun ∙ ap (λ (b : Bool). out ++ literal_words names b p) holds)
      (then ∙ ap (λ (ps : List ℕ). mid ++ literals_after names letter ps) (take_all (suc (length others) - 1) others (omega arith)))
