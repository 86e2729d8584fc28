-- Words that the automaton of a word accepts, and another automaton does not.
use Rattle.std.proofs.Common.{◌≡◌, ◌↔◌, ℕ, List, [], ◌∷◌, length, Option, Some, unwrap_or, sym, ap, subst, ◌∙◌, arith}
use Rattle.std.specs.List.{AllByRecursion}
use Rattle.omega_text.specs.hoa.Forms.{IsQuotable}
use Rattle.omega_hoa_automaton.specs.Automaton.{BodyEdge, Description, IsAutomaton, edge_at}
use Rattle.omega_hoa_edges.specs.Conjuncts.{conjuncts, each_once}
use Rattle.omega_hoa_edges.specs.Labels.{valuation_label}
use Rattle.omega_hoa_label.specs.Label.{LabelTree}
use Rattle.omega_lang_intersection.specs.Intersection.{GoesAlong}
use Rattle.omega_lang_lasso_search.specs.Searching.{IsSearchable}
use Rattle.omega_lang_lasso_word.specs.Fitting.{Fits}
use Rattle.omega_lang_lasso_word.specs.LassoWordText.{lasso_word_text}
use Rattle.omega_lang_lasso_word.specs.Laws.{HasStrings}
use Rattle.omega_lang_lasso_word.specs.Letters.{conjunction_words, letter_at, letter_text, text_of_letter}
use Rattle.omega_lang_lasso_word.specs.WordText.{word_text}
use Rattle.omega_lang_lasso_word.proofs.Admitted.{admitted_words_are_accepted}
use Rattle.omega_lang_lasso_word.proofs.Fitted.{words_fit_where_edges_can_be_taken}
use Rattle.omega_lang_runs.specs.Lasso.{IsAcceptingLasso}
use Rattle.omega_lang_runs.specs.Verdict.{IsVerdict}
use Rattle.omega_lang_runs.specs.Words.{index_in}
use Rattle.omega_lang_runs.specs.declared.verdict.Verdict.TheVariants.{Empty}
use Rattle.omega_lang_runs.proofs.Verdicts.{empty_accepts_no_word}
use Rattle.omega_lang_lasso_word.specs.declared.symbolic_word.SymbolicWord.{SymbolicWord}
use Rattle.omega_text.specs.NamedWords.{NamedWord}
use Rattle.omega_lang_word_laws.specs.NamedWords.{AcceptsNamed, part_of}
use Rattle.omega_lang_inclusion.specs.Membership.{HasStringNames, IsMembership, IsRejected}
use Rattle.omega_lang_inclusion.specs.Written.{IsWordAutomaton}
use Rattle.omega_lang_inclusion.specs.declared.membership.Membership.TheVariants.{Accepted, Rejected}
use Rattle.omega_lang_inclusion.specs.private.Choosing.{AcceptCommon}
use Rattle.omega_lang_inclusion.specs.private.LassoWords.{conjuncts_in, edge_conjuncts, words_along}
use Rattle.omega_lang_inclusion.proofs.Going.{goes_along}
use Rattle.omega_lang_inclusion.proofs.Running.{accepted_admits, admitted_accepts, some_letter}
use Rattle.omega_lang_intersection.proofs.Texts.{words_alike}
use Rattle.omega_lang_inclusion.proofs.Together.{each_accepted}

module _ (word : SymbolicWord) (one a : Description) (means : IsWordAutomaton word one) (none : ¬ AcceptCommon one a) where
  is_rejected : (named : NamedWord) → AcceptsNamed one named → IsRejected word a named
  is_rejected named accepted = record {
    admitted = accepted_admits word one means named accepted;
    not_accepted = λ within. none (named, record { first = accepted; second = within });
  }

  strings : HasStringNames word → HasStrings one
  strings names = subst (AllByRecursion IsQuotable) (sym means.propositions) names

  -- no word is admitted
  pub no_word : IsSearchable one → IsVerdict one Empty → IsMembership word a Accepted
  no_word searchable empty = each_accepted word a (λ named admitted.
      absurd (empty_accepts_no_word one (part_of one.propositions named) searchable empty (admitted_accepts word one means named admitted)))

  -- the conjuncts of an edge are those of its letter, which is a label
  letter_alike : (number : ℕ) (edge : BodyEdge) → edge_at one number ≡ Some edge → conjunction_words one.propositions (edge_conjuncts one number) ≡ letter_text one number
  letter_alike number edge at =
      let found = some_letter word one means number edge at in
      let index : ℕ = index_in one.defined number in
      let told : List LabelTree → List ℕ = conjunction_words one.propositions in
      ap (λ (e : Option BodyEdge). told (conjuncts_in one index e)) at
      ∙ ap (λ (label : Option LabelTree). told (each_once (conjuncts (unwrap_or label (valuation_label index (length one.propositions)))))) found.2.label
      ∙ sym (ap (letter_at one number) at ∙ ap (text_of_letter one.propositions index) found.2.label)

  -- the words along a lasso are admitted
  module _ (automaton : IsAutomaton one) (searchable : IsSearchable one) (stem : List ℕ) (first : ℕ) (others : List ℕ) (lasso : IsAcceptingLasso one stem (first ∷ others)) where
    accepted : (named : NamedWord) → GoesAlong one stem (first ∷ others) named → AcceptsNamed one named
    accepted named goes = admitted_words_are_accepted one stem first others (part_of one.propositions named) searchable lasso goes

    written : lasso_word_text (words_along one stem (first ∷ others)) ≡ word_text one stem (first ∷ others)
    written = words_alike one one.propositions (edge_conjuncts one) letter_alike stem (first ∷ others) lasso

    fitting : HasStringNames word → (named : NamedWord) → Fits (lasso_word_text (words_along one stem (first ∷ others))) named ↔ GoesAlong one stem (first ∷ others) named
    fitting names named =
        subst (λ (text : List ℕ). Fits text named ↔ GoesAlong one stem (first ∷ others) named) (sym written)
        (words_fit_where_edges_can_be_taken one stem first others named (strings names) lasso)

    rejection : IsMembership word a (Rejected (words_along one stem (first ∷ others)))
    rejection =
        let found = goes_along one automaton stem first others lasso in
        record {
          named = found.0;
          rejected = is_rejected found.0 (accepted found.0 found.1);
          fits = λ names its. (fitting names found.0).1 found.1;
          all_rejected = λ names its other fits. is_rejected other (accepted other ((fitting names other).0 fits));
        }

  pub rejection_right : IsAutomaton one → IsSearchable one → (stem cycle : List ℕ) → IsAcceptingLasso one stem cycle → IsMembership word a (Rejected (words_along one stem cycle))
  rejection_right automaton searchable stem [] lasso = absurd (omega (arith, lasso.lasso.longer))
  rejection_right automaton searchable stem (first ∷ others) lasso = rejection automaton searchable stem first others lasso
