-- Flags by number, and the numbers of those that are set.
use Rattle.std.proofs.Common.{◌≡◌, ℕ, zero, suc, ◌+◌, ◌<◌, Bool, true, false, if◌then◌else◌, inl, inr, List, [], ◌∷◌, ◌++◌, get_or, Contains, Some, sym, subst, ◌∙◌, ap, arith}
use Rattle.std.proofs.lemmas.Bool.{cases_lt, false≢true}
use Rattle.std.proofs.lemmas.List.Elements.{Contains-append_left, Contains-get_or, Contains-push, Contains-push_cases}
use Rattle.std.proofs.lemmas.Option.{slice_get_within}
use Rattle.std.specs.List.Sorted.{IsStrictlyIncreasing}
use Rattle.std.specs.Prelude.{slice_get}
use Rattle.omega_hoa_automaton.specs.Automaton.{Description, edge_count, edges_of}
use Rattle.omega_lang_runs.specs.Judging.{AreUsable}
use Rattle.omega_lang_lasso_search.specs.Tabled.{AreUsableEdges}
use Rattle.omega_lang_lasso_search.proofs.Rising.{above_rises}

-- a flag that is read with `false` past the end
flag_from : (flags : List Bool) (number : ℕ) → slice_get flags number ≡ Some true → get_or flags number false ≡ true
flag_from [] number is = cc
flag_from (x ∷ xs) zero is = cc
flag_from (x ∷ xs) (suc number) is = flag_from xs number is

flag_has : (flags : List Bool) (number : ℕ) → get_or flags number false ≡ true → slice_get flags number ≡ Some true
flag_has [] number is = cc
flag_has (x ∷ xs) zero is = ap (λ b. Some b) is
flag_has (x ∷ xs) (suc number) is = flag_has xs number is

-- the numbers of the first flags that are set
abbrev pub Chosen : List Bool → List ℕ → ℕ → Type 0
Chosen flags numbers bound =
    ((number : ℕ) → Contains numbers number → (number < bound) × (get_or flags number false ≡ true))
    × ((number : ℕ) → number < bound → get_or flags number false ≡ true → Contains numbers number)

-- one flag more
pub chosen_more : (flags : List Bool) (numbers after : List ℕ) (bound : ℕ) (flag : Bool) → flag ≡ get_or flags bound false
    → after ≡ (if flag then numbers ++ bound ∷ [] else numbers) → Chosen flags numbers bound → Chosen flags after (bound + 1)
chosen_more flags numbers after bound true is grown chosen = (
  λ number has. elim (Contains-push_cases numbers bound number (subst (λ xs. Contains xs number) grown has)) [
    | inl old ↦ let low : number < bound = (chosen.0 number old).0 in (omega arith, (chosen.0 number old).1)
    | inr same ↦ (omega arith, subst (λ n. get_or flags n false ≡ true) same (sym is))
  ],
  λ number low set. elim (cases_lt number bound) [
    | inl less ↦ subst (λ xs. Contains xs number) (sym grown) (Contains-append_left numbers (bound ∷ []) number (chosen.1 number less set))
    | inr more ↦
        let same : bound ≡ number = omega arith in
        subst (λ xs. Contains xs number) (sym grown) (subst (Contains (numbers ++ bound ∷ [])) same (Contains-push numbers bound))
  ],
)
chosen_more flags numbers after bound false is grown chosen = (
  λ number has.
      let old = chosen.0 number (subst (λ xs. Contains xs number) grown has) in
      let low : number < bound = old.0 in
      (omega arith, old.1),
  λ number low set. elim (cases_lt number bound) [
    | inl less ↦ subst (λ xs. Contains xs number) (sym grown) (chosen.1 number less set)
    | inr more ↦
        let same : bound ≡ number = omega arith in
        absurd (false≢true (is ∙ ap (λ n. get_or flags n false) same ∙ set))
  ],
)

-- a rising list, and maybe a number above all of its numbers
pub rising_more : (numbers after : List ℕ) (bound : ℕ) (flag : Bool) → after ≡ (if flag then numbers ++ bound ∷ [] else numbers)
    → ((number : ℕ) → Contains numbers number → number < bound) → IsStrictlyIncreasing numbers → IsStrictlyIncreasing after
rising_more numbers after bound false grown below rising = subst IsStrictlyIncreasing (sym grown) rising
rising_more numbers after bound true grown below rising = subst IsStrictlyIncreasing (sym grown) (above_rises numbers bound rising below)

-- the numbers of the flags that are set are those of the usable edges
pub chosen_usable : (a : Description) (flags : List Bool) (numbers : List ℕ) → AreUsable a flags → Chosen flags numbers (edge_count a) → AreUsableEdges a numbers
chosen_usable a flags numbers usable chosen = record {
  below = λ k d inside. (chosen.0 (get_or numbers k d) (Contains-get_or numbers k d inside)).0;
  exact = λ number edge stands. (
    λ has. (usable.judged number edge stands).0 (flag_has flags number (chosen.0 number has).1),
    λ is. chosen.1 number (slice_get_within (edges_of a) number edge stands) (flag_from flags number ((usable.judged number edge stands).1 is)),
  );
}
