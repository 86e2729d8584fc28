-- What is found of labels, label by label.
use Rattle.std.proofs.Common.{◌≡◌, ℕ, ◌+◌, ◌<◌, Bool, ◌||◌, List, Option, is_none, length, get_or, take, sum_by, ap, sym, ◌∙◌, arith}
use Rattle.std.specs.List.{list_any}
use Rattle.std.proofs.lemmas.List.Folds.{list_any_more}
use Rattle.std.proofs.lemmas.List.Sums.{sum_by_more}
use Rattle.omega_hoa_label_text.specs.Expanding.{Meaning}
use Rattle.omega_hoa_automaton.specs.Faults.{is_deep, is_large}
use Rattle.omega_hoa_automaton.specs.declared.judging.findings.Findings.{Findings}
use Rattle.omega_hoa_automaton.specs.private.layout.Findings.{AreFound, AreJoinedFindings, capped, is_faulty}
use Rattle.omega_hoa_automaton.proofs.SoundLemmas.{or_first, or_second}

-- of labels and of others
pub found-joined : (some others : (Option Meaning → Bool) → Bool) (size more : ℕ) (one other both : Findings)
    → AreFound some size one → AreFound others more other → AreJoinedFindings one other both → AreFound (λ test. some test || others test) (size + more) both
found-joined some others size more one other both first second joined = record {
  undefined = joined.undefined ∙ (ap (λ b. b || other.undefined) first.undefined ∙ ap (λ b. some is_none || b) second.undefined);
  deep = joined.deep ∙ (ap (λ b. b || other.deep) first.deep ∙ ap (λ b. some is_deep || b) second.deep);
  large = joined.large ∙ (ap (λ b. b || other.large) first.large ∙ ap (λ b. some is_large || b) second.large);
  sized = λ none. omega (arith, joined.size, first.sized (or_first (some is_faulty) (others is_faulty) none), second.sized (or_second (some is_faulty) (others is_faulty) none));
  within = omega (arith, joined.size);
}

-- the same by other words
pub found-said : (some others : (Option Meaning → Bool) → Bool) (size more : ℕ) (found : Findings)
    → ((test : Option Meaning → Bool) → others test ≡ some test) → more ≡ size → AreFound some size found → AreFound others more found
found-said some others size more found same sum is = record {
  undefined = is.undefined ∙ sym (same is_none);
  deep = is.deep ∙ sym (same is_deep);
  large = is.large ∙ sym (same is_large);
  sized = λ none. is.sized (sym (same is_faulty) ∙ none) ∙ ap capped (sym sum);
  within = is.within;
}

-- a step of a loop over what has labels
pub found-step : {X : Type 0} (tests : (Option Meaning → Bool) → X → Bool) (size : X → ℕ) (xs : List X) (i : ℕ) (x : X) (one other both : Findings)
    → i < length xs → x ≡ get_or xs i x
    → AreFound (λ test. list_any (tests test) (take i xs)) (sum_by size (take i xs)) one → AreFound (λ test. tests test x) (size x) other → AreJoinedFindings one other both
    → AreFound (λ test. list_any (tests test) (take (i + 1) xs)) (sum_by size (take (i + 1) xs)) both
found-step tests size xs i x one other both within is before here joined =
    let more = sum_by_more size xs i x within in
    let same : size x ≡ size (get_or xs i x) = ap size is in
    found-said (λ test. list_any (tests test) (take i xs) || tests test x) (λ test. list_any (tests test) (take (i + 1) xs))
    (sum_by size (take i xs) + size x) (sum_by size (take (i + 1) xs)) both
    (λ test. list_any_more (tests test) xs i x within ∙ ap (λ y. list_any (tests test) (take i xs) || tests test y) (sym is))
    (omega arith)
    (found-joined (λ test. list_any (tests test) (take i xs)) (λ test. tests test x) (sum_by size (take i xs)) (size x) one other both before here joined)
