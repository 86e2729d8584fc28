-- Segments of an infinite run. A segment is accepted if it has what every `Inf` needs and begins late enough for every
-- `Fin`.
use Rattle.std.proofs.Common.{◌≡◌, ℕ, zero, suc, ◌+◌, ◌<◌, ◌≤◌, inl, inr, Bool, true, false, List, [], ◌∷◌, max, sym, ap, refl, ◌∙◌, arith}
use Rattle.std.proofs.lemmas.Bool.{and_from, or_left, or_right, or_from, not_from_false, cases_lt}
use Rattle.omega_hoa_acceptance.specs.Acceptance.{AccTree, accepts, conjunction, constant, disjunction, fin, inf, holds, occurs}
use Rattle.omega_graph.specs.Marks.{meets}
use Rattle.omega_lang_runs.specs.Runs.{Satisfies}

module _ (marks : ℕ → List ℕ) where
  -- `n` marks from an index on
  abbrev pub segment : ℕ → ℕ → List (List ℕ)
  segment i zero = []
  segment i (suc n) = marks i ∷ segment (suc i) n

  -- the index from which on nothing comes that at last comes never
  abbrev pub settled : (f : AccTree) → Satisfies marks f → ℕ
  settled (constant value) holds = 0
  settled (inf negated set) holds = 0
  settled (fin negated set) holds = holds.0
  settled (conjunction left right) holds = max (settled left holds.0) (settled right holds.1)
  settled (disjunction left right) (inl holds) = settled left holds
  settled (disjunction left right) (inr holds) = settled right holds

  -- the index before which all has come that comes for ever, from an index on
  abbrev pub enough : (f : AccTree) → Satisfies marks f → ℕ → ℕ
  enough (constant value) holds i = i
  enough (inf negated set) holds i = suc (holds i).0
  enough (fin negated set) holds i = i
  enough (conjunction left right) holds i = max (enough left holds.0 i) (enough right holds.1 i)
  enough (disjunction left right) (inl holds) i = enough left holds i
  enough (disjunction left right) (inr holds) i = enough right holds i

  -- a segment meets what some index of it meets
  met : (negated : Bool) (set i n j : ℕ) → i ≤ j → j < i + n → meets negated set (marks j) ≡ true → occurs (segment i n) negated set ≡ true
  met negated set i zero j least below here = absurd (omega arith)
  met negated set i (suc n) j least below here =
      elim (cases_lt i j) [
        | inl later ↦ or_right (meets negated set (marks i)) (occurs (segment (suc i) n) negated set) (met negated set (suc i) n j (omega arith) (omega arith) here)
        | inr now ↦
            let same : j ≡ i = omega arith in
            or_left (meets negated set (marks i)) (occurs (segment (suc i) n) negated set) (ap (λ k. meets negated set (marks k)) (sym same) ∙ here)
      ]

  -- and no other
  unmet : (negated : Bool) (set i n : ℕ) → ((j : ℕ) → i ≤ j → meets negated set (marks j) ≡ false) → occurs (segment i n) negated set ≡ false
  unmet negated set i zero none = refl
  unmet negated set i (suc n) none =
      or_from (meets negated set (marks i)) (occurs (segment (suc i) n) negated set) (none i (omega arith))
      (unmet negated set (suc i) n (λ j least. none j (omega arith)))

  -- such a segment is accepted
  pub segment_accepts : (f : AccTree) (holds : Satisfies marks f) (i n : ℕ) → settled f holds ≤ i → enough f holds i ≤ i + n
      → accepts (segment i n) f ≡ true
  segment_accepts (constant value) holds i n late long = holds
  segment_accepts (inf negated set) holds i n late long = met negated set i n (holds i).0 (holds i).1 (omega arith) (holds i).2
  segment_accepts (fin negated set) holds i n late long =
      not_from_false (occurs (segment i n) negated set) (unmet negated set i n (λ j least. holds.1 j (omega arith)))
  segment_accepts (conjunction left right) holds i n late long =
      and_from (accepts (segment i n) left) (accepts (segment i n) right)
      (segment_accepts left holds.0 i n (omega arith) (omega arith)) (segment_accepts right holds.1 i n (omega arith) (omega arith))
  segment_accepts (disjunction left right) (inl holds) i n late long =
      or_left (accepts (segment i n) left) (accepts (segment i n) right) (segment_accepts left holds i n late long)
  segment_accepts (disjunction left right) (inr holds) i n late long =
      or_right (accepts (segment i n) left) (accepts (segment i n) right) (segment_accepts right holds i n late long)
