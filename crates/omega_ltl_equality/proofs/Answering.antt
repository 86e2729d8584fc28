-- What the words of a complement that satisfy a formula say of the automaton and the formula.
use Rattle.std.proofs.Common.{◌⊎◌, inl, inr, ℕ, List, sym, subst}
use Rattle.std.specs.List.{AllByRecursion}
use Rattle.omega_text.specs.NamedWords.{NamedWord}
use Rattle.omega_text.specs.hoa.Forms.{IsQuotable}
use Rattle.omega_hoa_automaton.specs.Automaton.{Description, IsAutomaton}
use Rattle.omega_lang_complement.specs.Complement.{HasComplement, IsComplement}
use Rattle.omega_lang_intersection.specs.declared.answer.Example.{Example}
use Rattle.omega_lang_intersection.specs.declared.answer.Intersection.TheVariants.{Common, Empty}
use Rattle.omega_lang_lasso_word.specs.Laws.{HasStrings}
use Rattle.omega_lang_word_laws.specs.Complements.{IsParted}
use Rattle.omega_lang_word_laws.specs.NamedWords.{AcceptsNamed}
use Rattle.omega_lang_word_laws.proofs.naming.Parting.{complements_part}
use Rattle.omega_lang_word_laws.proofs.naming.Same.{same_names}
use Rattle.omega_ltl_formula.specs.Meaning.{Satisfies}
use Rattle.omega_ltl_formula.specs.Table.{NumberedFormula, tree_of}
use Rattle.omega_ltl_satisfaction.specs.Satisfaction.{IsSatisfaction}
use Rattle.omega_ltl_satisfaction.specs.SatisfyingWords.{AreSatisfyingWords, IsSatisfying, NoneSatisfies}
use Rattle.omega_ltl_satisfaction.specs.declared.satisfaction.Satisfaction.TheVariants.{Satisfied}
use Rattle.omega_ltl_equality.specs.Equality.{IsFormulaEquality, IsMissing}
use Rattle.omega_ltl_equality.specs.declared.formula_equality.FormulaEquality.TheVariants.{Equal, Missing}

module _ (a rest : Description) (formula : NumberedFormula) (is_a : IsAutomaton a) (given : HasComplement a) (is : IsComplement a rest)
    (satisfied : IsSatisfaction a formula Satisfied) where
  -- the two automata part each word
  parted : (word : NamedWord) → IsParted a rest word
  parted word = complements_part a rest word is_a given.deterministic is

  -- a word that satisfies the formula is not one of the complement, so it is one of the automaton
  within : NoneSatisfies rest (tree_of formula) → (word : NamedWord) → Satisfies (tree_of formula) word → AcceptsNamed a word ⊎ AcceptsNamed rest word → AcceptsNamed a word
  within none word satisfies (inl inside) = inside
  within none word satisfies (inr outside) = absurd (none word outside satisfies)

  pub none_equal : AreSatisfyingWords rest formula Empty → IsFormulaEquality a formula Equal
  none_equal none omniscience word = (
    satisfied omniscience word,
    λ satisfies. within (none omniscience) word satisfies ((parted word).all omniscience),
  )

  -- a word of the complement is not one of the automaton
  missed : (word : NamedWord) → IsSatisfying rest (tree_of formula) word → IsMissing a (tree_of formula) word
  missed word satisfying = record {
    satisfied = satisfying.satisfied;
    not_accepted = λ inside. (parted word).apart inside satisfying.accepted;
  }

  strings : HasStrings a → HasStrings rest
  strings names =
      let P : List (List ℕ) → Type 0 = λ names. AllByRecursion IsQuotable names in
      subst P (sym (same_names a rest is)) names

  pub some_missing : (example : Example) → AreSatisfyingWords rest formula (Common example) → IsFormulaEquality a formula (Missing example.word)
  some_missing example words = (
    satisfied,
    record {
      word = words.word;
      missing = missed words.word words.wanted;
      fits = λ names others. words.fits (strings names, others);
      all_missing = λ names others word fits. missed word (words.all_wanted (strings names, others) word fits);
    },
  )
