-- The text of the words along a lasso, by conjuncts whose texts are the letters of its edges.
use Rattle.std.proofs.Common.{◌≡◌, ℕ, List, [], ◌∷◌, ◌++◌, Some, codes, map, refl, ap, ap₂}
use Rattle.omega_hoa_automaton.specs.Automaton.{BodyEdge, Description, edge_at}
use Rattle.omega_hoa_label.specs.Label.{LabelTree}
use Rattle.omega_lang_lasso_word.specs.Form.{cycle_form, others_form, stem_form}
use Rattle.omega_lang_lasso_word.specs.LassoWordText.{lasso_word_text, words_over}
use Rattle.omega_lang_lasso_word.specs.Letters.{conjunction_words, letter_text}
use Rattle.omega_lang_lasso_word.specs.WordText.{word_text}
use Rattle.omega_lang_runs.specs.Lasso.{IsAcceptingLasso, Leads}

module _ (a : Description) (names : List (List ℕ)) (letter : ℕ → List LabelTree)
    (alike : (number : ℕ) (edge : BodyEdge) → edge_at a number ≡ Some edge → conjunction_words names (letter number) ≡ letter_text a number) where
  stem_alike : (q : ℕ) (numbers : List ℕ) (q' : ℕ) → Leads a q numbers q' → stem_form (conjunction_words names) (map letter numbers) ≡ stem_form (letter_text a) numbers
  stem_alike q [] q' leads = refl
  stem_alike q (n ∷ ns) q' leads =
      ap₂ ◌++◌ (ap (λ (text : List ℕ). text ++ codes "; ") (alike n leads.1.edge leads.1.numbered)) (stem_alike leads.0 ns q' leads.2)

  others_alike : (q : ℕ) (numbers : List ℕ) (q' : ℕ) → Leads a q numbers q' → others_form (conjunction_words names) (map letter numbers) ≡ others_form (letter_text a) numbers
  others_alike q [] q' leads = refl
  others_alike q (n ∷ ns) q' leads =
      ap₂ ◌++◌ (ap (λ (text : List ℕ). codes "; " ++ text) (alike n leads.1.edge leads.1.numbered)) (others_alike leads.0 ns q' leads.2)

  cycle_alike : (q : ℕ) (numbers : List ℕ) (q' : ℕ) → Leads a q numbers q' → cycle_form (conjunction_words names) (map letter numbers) ≡ cycle_form (letter_text a) numbers
  cycle_alike q [] q' leads = refl
  cycle_alike q (n ∷ ns) q' leads = ap₂ ◌++◌ (alike n leads.1.edge leads.1.numbered) (others_alike leads.0 ns q' leads.2)

  pub words_alike : (stem cycle : List ℕ) → IsAcceptingLasso a stem cycle → lasso_word_text (words_over names (map letter stem) (map letter cycle)) ≡ word_text a stem cycle
  words_alike stem cycle lasso =
      let l = lasso.lasso in
      ap₂ (λ (before around : List ℕ). before ++ (codes "cycle{" ++ (around ++ codes "}")))
      (stem_alike l.start stem l.loop_state l.stem_leads) (cycle_alike l.loop_state cycle l.loop_state l.cycle_leads)
