-- A deterministic automaton and its complement part the words over names.
use Rattle.std.proofs.Common.{◌⊎◌, inl, inr, ℕ, Bool, List, [], sym, subst}
use Rattle.std.specs.Prelude.{slice_index_or}
use Rattle.omega_hoa_automaton.specs.Automaton.{Description, IsAutomaton}
use Rattle.omega_hoa_edges.specs.Determinism.{IsDeterministic}
use Rattle.omega_lang_complement.specs.Complement.{IsComplement}
use Rattle.omega_lang_runs.specs.Words.{IsAccepted}
use Rattle.omega_lang_word_laws.specs.Complements.{ComplementsPartByName}
use Rattle.omega_text.specs.NamedWords.{NamedWord}
use Rattle.omega_lang_word_laws.specs.NamedWords.{AcceptsNamed, part_of}
use Rattle.omega_lang_word_laws.proofs.naming.Named.{contained_at}
use Rattle.omega_lang_word_laws.proofs.naming.Periodic.{complements_over_periodic}
use Rattle.omega_lang_word_laws.proofs.naming.Same.{same_names}
use Rattle.omega_lang_word_laws.proofs.parting.Apart.{complements_apart}
use Rattle.omega_lang_word_laws.proofs.parting.Cover.{complements_over}

module _ (a c : Description) (word : NamedWord) (is_a : IsAutomaton a) (deterministic : IsDeterministic a) (is : IsComplement a c) where
  abbrev part : ℕ → ℕ → Bool
  part = part_of a.propositions word

  from_complement : AcceptsNamed c word → IsAccepted c part
  from_complement accepted =
      let P : List (List ℕ) → Type 0 = λ names. IsAccepted c (part_of names word) in subst P (same_names a c is) accepted

  of_one : IsAccepted a part ⊎ IsAccepted c part → AcceptsNamed a word ⊎ AcceptsNamed c word
  of_one (inl within) = inl within
  of_one (inr outside) =
      let P : List (List ℕ) → Type 0 = λ names. IsAccepted c (part_of names word) in inr (subst P (sym (same_names a c is)) outside)

pub complements_part : ComplementsPartByName
complements_part a c word is_a deterministic is =
    let seen : ℕ → ℕ → Bool = part_of a.propositions word in
    record {
      apart = λ within outside. complements_apart a c seen is_a deterministic is within (from_complement a c word is_a deterministic is outside);
      periodic = λ periodic. of_one a c word is_a deterministic is
          (complements_over_periodic a c seen is_a deterministic is periodic.start periodic.period periodic.some
          (λ i p past below. periodic.repeats i (slice_index_or a.propositions p []) past (contained_at a.propositions p [] below)));
      all = λ omniscience. of_one a c word is_a deterministic is (complements_over omniscience a c seen is_a deterministic is);
    }
