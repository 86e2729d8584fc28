-- A letter over names that an automaton sees as a letter by numbers, and that is a given one beyond its propositions.
use Rattle.std.proofs.Common.{◌≡◌, ℕ, ◌<◌, inl, inr, Bool, if◌then◌else◌, nat_lt, List, [], length, get_or, Contains, sym, ap, subst, ◌∙◌}
use Rattle.std.specs.List.{position_or_len}
use Rattle.std.specs.Str.{bytes_eq}
use Rattle.std.proofs.lemmas.Bool.{cases_lt, le-ltb, lt-ltb}
use Rattle.std.proofs.lemmas.List.Sums.{passes_at_first}
use Rattle.std.proofs.lemmas.Slice.Eq.{bytes_eq-Decides}
use Rattle.omega_hoa_automaton.specs.Automaton.{Description, IsAutomaton}
use Rattle.omega_lang_word_laws.proofs.naming.Named.{own_place}
use Rattle.omega_synth_check.specs.CounterJudging.{IsGiven, NamedLetter}
use Rattle.omega_synth_check.proofs.Sides.{seen}

module _ (a : Description) (automaton : IsAutomaton a) where
  abbrev names : List (List ℕ)
  names = a.propositions

  abbrev pub place : List ℕ → ℕ
  place name = position_or_len (bytes_eq name) names

  pub placed : (p : ℕ) → p < length names → place (get_or names p []) ≡ p
  placed p below = own_place names automaton.unlike p below

  named_there : (name : List ℕ) → place name < length names → get_or names (place name) [] ≡ name
  named_there name below = sym ((bytes_eq-Decides name (get_or names (place name) [])).0 (passes_at_first (bytes_eq name) names [] below))

  abbrev pub merged : (given : NamedLetter) (letter : ℕ → Bool) → NamedLetter
  merged given letter name = if nat_lt (place name) (length names) then letter (place name) else given name

  module _ (given : NamedLetter) (letter : ℕ → Bool) where
    merged_low : (name : List ℕ) → place name < length names → merged given letter name ≡ letter (place name)
    merged_low name low = ap (λ b. if b then letter (place name) else given name) (lt-ltb (place name) (length names) low)

    -- the automaton sees the letter by numbers
    pub merged_seen : (p : ℕ) → p < length names → seen names (merged given letter) p ≡ letter p
    merged_seen p low =
        let name : List ℕ = get_or names p [] in
        let here : place name ≡ p = placed p low in
        merged_low name (subst (λ (n : ℕ). n < length names) (sym here) low) ∙ ap letter here

    -- and the environment gave the given one, if both agree on its propositions
    pub merged_given : (outs : List (List ℕ)) → ((p : ℕ) → p < length names → ¬ Contains outs (get_or names p []) → given (get_or names p []) ≡ letter p)
        → IsGiven outs given (merged given letter)
    merged_given outs agree name free = elim (cases_lt (place name) (length names)) [
      | inl low ↦
          let named : get_or names (place name) [] ≡ name = named_there name low in
          sym (ap given named) ∙ agree (place name) low (subst (λ (n : List ℕ). ¬ Contains outs n) (sym named) free) ∙ sym (merged_low name low)
      | inr past ↦ sym (ap (λ b. if b then letter (place name) else given name) (le-ltb (place name) (length names) past))
    ]
