-- The union of two automata accepts a word over names exactly if one of the two does.
use Rattle.std.proofs.Common.{◌≡◌, ◌⊎◌, inl, inr, ℕ, List, sym, ap, subst}
use Rattle.omega_hoa_automaton.specs.Automaton.{Description}
use Rattle.omega_lang_runs.specs.Words.{IsAccepted}
use Rattle.omega_lang_product.specs.Joining.{joined_names, part_of_word}
use Rattle.omega_lang_product.specs.Pairs.{first_view, second_view}
use Rattle.omega_lang_word_laws.specs.NamedWords.{AcceptsNamed, part_of}
use Rattle.omega_lang_word_laws.proofs.naming.Parted.{first_named, second_named}
use Rattle.omega_laws.specs.Unions.{UnionsAcceptEitherByName}
use Rattle.omega_laws.proofs.Either.{accepted_by_one}

pub accepted_by_one_named : UnionsAcceptEitherByName
accepted_by_one_named one other a word automaton automaton' union_automaton plain plain' is =
    let all : List (List ℕ) = joined_names one.propositions other.propositions in
    let names : a.propositions ≡ all = ap (λ (d : Description). d.propositions) is.is in
    let P : List (List ℕ) → Type 0 = λ ns. IsAccepted a (part_of ns word) in
    let either = accepted_by_one one other a (part_of all word) automaton automaton' union_automaton plain plain' is in
    let first = first_named one other word automaton in
    let second = second_named one other word automaton' in (
      λ accepted. elim (either.0 (subst P names accepted)) [ inl by_first ↦ inl (first.0 by_first) | inr by_second ↦ inr (second.0 by_second) ],
      λ accepted. subst P (sym names) (either.1 (elim accepted [ inl by_first ↦ inl (first.1 by_first) | inr by_second ↦ inr (second.1 by_second) ])),
    )
