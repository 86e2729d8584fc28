-- What the intersection with a complement says of two automata.
use Rattle.std.proofs.Common.{◌⊎◌, inl, inr, ℕ, List, sym, subst}
use Rattle.std.specs.List.{AllByRecursion}
use Rattle.omega_text.specs.hoa.Forms.{IsQuotable}
use Rattle.omega_hoa_automaton.specs.Automaton.{Description}
use Rattle.omega_hoa_automaton.specs.Branching.{has_universal_branching}
use Rattle.omega_lang_complement.specs.Complement.{HasComplement}
use Rattle.omega_lang_intersection.specs.Intersection.{AcceptBoth, IsIntersection}
use Rattle.omega_lang_intersection.specs.declared.answer.Example.{Example}
use Rattle.omega_lang_intersection.specs.declared.answer.Intersection.TheVariants.{Common, Empty}
use Rattle.omega_lang_lasso_word.specs.Laws.{HasStrings}
use Rattle.omega_lang_product.specs.Refusing.{HaveNoBranch}
use Rattle.omega_lang_word_laws.specs.Complements.{IsParted}
use Rattle.omega_text.specs.NamedWords.{NamedWord}
use Rattle.omega_lang_word_laws.specs.NamedWords.{AcceptsNamed}
use Rattle.omega_lang_word_laws.proofs.naming.Parting.{complements_part}
use Rattle.omega_lang_word_laws.proofs.naming.Same.{same_names}
use Rattle.omega_lang_word_laws.proofs.parting.Plain.{or_parts}
use Rattle.omega_lang_inclusion.specs.Containing.{IsContainment, IsOutside}
use Rattle.omega_lang_inclusion.specs.Refusing.{AreComparable}
use Rattle.omega_lang_inclusion.specs.declared.containment.Containment.TheVariants.{Contained, NotContained}
use Rattle.omega_lang_inclusion.specs.private.Complemented.{IsComplemented}

module _ (one other rest : Description) (k : IsComplemented other rest) where
  -- the two automata part each word
  parted : (word : NamedWord) → IsParted other rest word
  parted word = complements_part other rest word k.is_other k.given.deterministic k.is_rest

  -- no common word: a word of `one` is one of `other`, if it is one of `other` or of the complement
  within : IsIntersection one rest Empty → (word : NamedWord) → AcceptsNamed one word → AcceptsNamed other word ⊎ AcceptsNamed rest word → AcceptsNamed other word
  within none word accepted (inl inside) = inside
  within none word accepted (inr outside) = absurd (none word (record { first = accepted; second = outside }))

  pub none_contained : IsIntersection one rest Empty → IsContainment one other Contained
  none_contained none = record {
    periodic = λ word periodic accepted. within none word accepted ((parted word).periodic periodic);
    all = λ omniscience word accepted. within none word accepted ((parted word).all omniscience);
  }

  -- a word of the complement is outside
  outside : (word : NamedWord) → AcceptBoth one rest word → IsOutside one other word
  outside word common = record {
    accepted = common.first;
    not_accepted = λ inside. (parted word).apart inside common.second;
  }

  strings : HasStrings other → HasStrings rest
  strings second =
      let P : List (List ℕ) → Type 0 = λ names. AllByRecursion IsQuotable names in
      subst P (sym (same_names other rest k.is_rest)) second

  pub common_outside : (example : Example) → IsIntersection one rest (Common example) → IsContainment one other (NotContained example)
  common_outside example is = record {
    word = is.word;
    wanted = outside is.word is.wanted;
    fits = λ names. is.fits (names.0, strings names.1);
    all_wanted = λ names word fits. outside word (is.all_wanted (names.0, strings names.1) word fits);
    lasso = is.lasso;
    goes_along = λ names word fits. is.goes_along (names.0, strings names.1) word fits;
  }

-- what the complement and the graph presume of two automata
pub are_comparable : (one c other : Description) → HaveNoBranch one c → HasComplement other → AreComparable one other
are_comparable one c other plain given =
    record { plain = (or_parts (has_universal_branching one) (has_universal_branching c) plain).0; given = given }
