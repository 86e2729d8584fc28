-- Parity formulas hold where the greatest priority is even: the deciding set,
-- and what the formula and the priorities make of it.
use Rattle.std.proofs.Common.{◌≡◌, ℕ, ◌+◌, ◌-◌, ◌<◌, ◌≤◌, zero, suc, true, false, not, ◌&&◌, ◌||◌, eqb, List, [], ◌∷◌, length, map, max, min, ap, refl, sym, ◌∙◌, arith, eq-eqb, add-one, inl, inr}
use Rattle.std.specs.List.{All}
use Rattle.std.proofs.lemmas.Bool.{cases_eq, cond_both, ne_eqb, or_from, or_left, or_right}
use Rattle.omega_hoa_parity_kind.specs.Priority.{beyond, greatest_number, has_parity, least_from, least_mark, priority_by}
use Rattle.omega_hoa_parity_kind.specs.declared.kind.Order.{Order}
use Rattle.omega_hoa_parity_kind.specs.declared.kind.Order.TheVariants.{Max, Min}
use Rattle.omega_hoa_parity_kind.specs.declared.kind.Parity.{Parity}
use Rattle.omega_hoa_parity_kind.specs.declared.kind.Parity.TheVariants.{Even, Odd}
use Rattle.omega_hoa_parity_kind.proofs.Parities.{even-difference, even-not-odd, has_parity-suc, least_from-le, least_from-parity, not-not}
use Rattle.omega_hoa_parity_kind.proofs.PriorityLemmas.{least_mark-le}
use Rattle.omega_hoa_acceptance.specs.Acceptance.{accepts, fin, holds, inf, occurs, disjunction, conjunction}
use Rattle.omega_hoa_acceptance.specs.Kind.{formula_of, sets_left, without_sets}

-- ---- the greatest mark

-- the greatest mark is held
holds-beyond : (marks : List ℕ) (set : ℕ) → beyond marks ≡ suc set → holds set marks ≡ true
holds-beyond [] set e = absurd (omega arith)
holds-beyond (mark ∷ marks) set e = elim (cases_eq mark set) [
  | inl same ↦ or_left (eqb mark set) (holds set marks) (eq-eqb mark set same)
  | inr other ↦ or_right (eqb mark set) (holds set marks) (holds-beyond marks set (omega arith))
]

-- no set from there on is held
lacks-beyond : (marks : List ℕ) (set : ℕ) → beyond marks ≤ set → holds set marks ≡ false
lacks-beyond [] set le = refl
lacks-beyond (mark ∷ marks) set le =
    or_from (eqb mark set) (holds set marks) (ne_eqb mark set (λ same. omega arith)) (lacks-beyond marks set (omega arith))

-- one more than the greatest of all marks
abbrev most_beyond : List (List ℕ) → ℕ
most_beyond [] = 0
most_beyond (marks ∷ forever) = max (beyond marks) (most_beyond forever)

occurs-beyond : (forever : List (List ℕ)) (set : ℕ) → most_beyond forever ≡ suc set → occurs forever false set ≡ true
occurs-beyond [] set e = absurd (omega arith)
occurs-beyond (marks ∷ forever) set e = elim (cases_eq (beyond marks) (suc set)) [
  | inl same ↦ or_left (holds set marks) (occurs forever false set) (holds-beyond marks set same)
  | inr other ↦ or_right (holds set marks) (occurs forever false set) (occurs-beyond forever set (omega arith))
]

misses-beyond : (forever : List (List ℕ)) (set : ℕ) → most_beyond forever ≤ set → occurs forever false set ≡ false
misses-beyond [] set le = refl
misses-beyond (marks ∷ forever) set le =
    or_from (holds set marks) (occurs forever false set) (lacks-beyond marks set (omega arith)) (misses-beyond forever set (omega arith))

-- ---- the least mark

-- the least mark is held
holds-least : (count : ℕ) (marks : List ℕ) (set : ℕ) → set < count → least_mark count marks ≡ set → holds set marks ≡ true
holds-least count [] set within e = absurd (omega arith)
holds-least count (mark ∷ marks) set within e = elim (cases_eq mark set) [
  | inl same ↦ or_left (eqb mark set) (holds set marks) (eq-eqb mark set same)
  | inr other ↦ or_right (eqb mark set) (holds set marks) (holds-least count marks set within (omega arith))
]

-- no set below it is held
lacks-least : (count : ℕ) (marks : List ℕ) (set : ℕ) → set < least_mark count marks → holds set marks ≡ false
lacks-least count [] set lt = refl
lacks-least count (mark ∷ marks) set lt =
    or_from (eqb mark set) (holds set marks) (ne_eqb mark set (λ same. omega arith)) (lacks-least count marks set (omega arith))

-- the least of all marks
abbrev lowest : ℕ → List (List ℕ) → ℕ
lowest count [] = count
lowest count (marks ∷ forever) = min (least_mark count marks) (lowest count forever)

lowest-le : (count : ℕ) (forever : List (List ℕ)) → lowest count forever ≤ count
lowest-le count [] = omega arith
lowest-le count (marks ∷ forever) = omega (arith, lowest-le count forever)

occurs-lowest : (count : ℕ) (forever : List (List ℕ)) (set : ℕ) → set < count → lowest count forever ≡ set → occurs forever false set ≡ true
occurs-lowest count [] set within e = absurd (omega arith)
occurs-lowest count (marks ∷ forever) set within e = elim (cases_eq (least_mark count marks) set) [
  | inl same ↦ or_left (holds set marks) (occurs forever false set) (holds-least count marks set within same)
  | inr other ↦ or_right (holds set marks) (occurs forever false set) (occurs-lowest count forever set within (omega arith))
]

misses-lowest : (count : ℕ) (forever : List (List ℕ)) (set : ℕ) → set < lowest count forever → occurs forever false set ≡ false
misses-lowest count [] set lt = refl
misses-lowest count (marks ∷ forever) set lt =
    or_from (holds set marks) (occurs forever false set) (lacks-least count marks set (omega arith)) (misses-lowest count forever set (omega arith))

-- ---- the formula

-- a set that occurs decides
value-held : (forever : List (List ℕ)) (order : Order) (parity : Parity) (set : ℕ) (rest : List ℕ) → occurs forever false set ≡ true
    → accepts forever (formula_of order parity (set ∷ rest)) ≡ has_parity parity set
value-held forever order parity set [] occ =
    cond_both (has_parity parity set) (inf false set) (fin false set) (λ tree. accepts forever tree ≡ has_parity parity set)
    (λ yes. occ ∙ sym yes) (λ no. ap not occ ∙ sym no)
value-held forever order parity set (next ∷ rest) occ =
    let others = formula_of order parity (next ∷ rest) in
    cond_both (has_parity parity set) (disjunction (inf false set) others) (conjunction (fin false set) others)
    (λ tree. accepts forever tree ≡ has_parity parity set)
    (λ yes. ap (λ b. b || accepts forever others) occ ∙ sym yes) (λ no. ap (λ b. not b && accepts forever others) occ ∙ sym no)

-- a set that does not occur leaves it to those after it
value-passed : (forever : List (List ℕ)) (order : Order) (parity : Parity) (set next : ℕ) (rest : List ℕ) → occurs forever false set ≡ false
    → accepts forever (formula_of order parity (set ∷ next ∷ rest)) ≡ accepts forever (formula_of order parity (next ∷ rest))
value-passed forever order parity set next rest occ =
    let others = formula_of order parity (next ∷ rest) in
    cond_both (has_parity parity set) (disjunction (inf false set) others) (conjunction (fin false set) others)
    (λ tree. accepts forever tree ≡ accepts forever others)
    (λ yes. ap (λ b. b || accepts forever others) occ) (λ no. ap (λ b. not b && accepts forever others) occ)

-- a last set that does not occur decides by its atom
value-last : (forever : List (List ℕ)) (order : Order) (parity : Parity) (set : ℕ) → occurs forever false set ≡ false
    → accepts forever (formula_of order parity (set ∷ [])) ≡ not (has_parity parity set)
value-last forever order parity set occ =
    cond_both (has_parity parity set) (inf false set) (fin false set) (λ tree. accepts forever tree ≡ not (has_parity parity set))
    (λ yes. occ ∙ sym (ap not yes)) (λ no. ap not occ ∙ sym (ap not no))

max-without : (parity : Parity) → without_sets Max parity ≡ not (has_parity parity 0)
max-without Even = refl
max-without Odd = refl

-- for max the greatest mark decides
max-value : (parity : Parity) (count left : ℕ) (forever : List (List ℕ)) → most_beyond forever ≤ left
    → accepts forever (formula_of Max parity (sets_left Max count left)) ≡ not (has_parity parity (most_beyond forever))
max-value parity count zero forever le =
    let none : 0 ≡ most_beyond forever = omega arith in max-without parity ∙ ap (λ n. not (has_parity parity n)) none
max-value parity count (suc zero) forever le = elim (cases_eq (most_beyond forever) 1) [
  | inl same ↦
      value-held forever Max parity 0 [] (occurs-beyond forever 0 same)
      ∙ (sym (not-not (has_parity parity 0)) ∙ (ap not (sym (has_parity-suc parity 0)) ∙ ap (λ n. not (has_parity parity n)) (sym same)))
  | inr other ↦
      let none : 0 ≡ most_beyond forever = omega arith in
      value-last forever Max parity 0 (misses-beyond forever 0 (omega arith)) ∙ ap (λ n. not (has_parity parity n)) none
]
max-value parity count (suc (suc left)) forever le = elim (cases_eq (most_beyond forever) (suc (suc left))) [
  | inl same ↦
      value-held forever Max parity (suc left) (sets_left Max count (suc left)) (occurs-beyond forever (suc left) same)
      ∙ (sym (not-not (has_parity parity (suc left))) ∙ (ap not (sym (has_parity-suc parity (suc left))) ∙ ap (λ n. not (has_parity parity n)) (sym same)))
  | inr other ↦
      value-passed forever Max parity (suc left) left (sets_left Max count left) (misses-beyond forever (suc left) (omega arith))
      ∙ max-value parity count (suc left) forever (omega arith)
]

min-without : (parity : Parity) → without_sets Min parity ≡ has_parity parity 0
min-without Even = refl
min-without Odd = refl

-- for min the least mark decides
min-value : (parity : Parity) (count left : ℕ) (forever : List (List ℕ)) → suc left ≤ count → count - suc left ≤ lowest count forever
    → accepts forever (formula_of Min parity (sets_left Min count (suc left))) ≡ has_parity parity (lowest count forever)
min-value parity count zero forever within le = elim (cases_eq (lowest count forever) (count - 1)) [
  | inl same ↦
      value-held forever Min parity (count - 1) [] (occurs-lowest count forever (count - 1) (omega arith) same) ∙ ap (has_parity parity) (sym same)
  | inr other ↦
      let at_count : suc (count - 1) ≡ lowest count forever = omega (arith, lowest-le count forever) in
      value-last forever Min parity (count - 1) (misses-lowest count forever (count - 1) (omega arith))
      ∙ (sym (has_parity-suc parity (count - 1)) ∙ ap (has_parity parity) at_count)
]
min-value parity count (suc left) forever within le = elim (cases_eq (lowest count forever) (count - suc (suc left))) [
  | inl same ↦
      value-held forever Min parity (count - suc (suc left)) (sets_left Min count (suc left)) (occurs-lowest count forever (count - suc (suc left)) (omega arith) same)
      ∙ ap (has_parity parity) (sym same)
  | inr other ↦
      value-passed forever Min parity (count - suc (suc left)) (count - suc left) (sets_left Min count left) (misses-lowest count forever (count - suc (suc left)) (omega arith))
      ∙ min-value parity count left forever (omega arith) (omega arith)
]

min-value-all : (parity : Parity) (count : ℕ) (forever : List (List ℕ))
    → accepts forever (formula_of Min parity (sets_left Min count count)) ≡ has_parity parity (lowest count forever)
min-value-all parity zero forever =
    let none : 0 ≡ lowest 0 forever = omega (arith, lowest-le 0 forever) in min-without parity ∙ ap (has_parity parity) none
min-value-all parity (suc left) forever = min-value parity (suc left) left forever (omega arith) (omega arith)

-- ---- the priorities

greatest-max-odd : (count : ℕ) (forever : List (List ℕ)) → greatest_number (map (priority_by Max Odd count) forever) ≡ most_beyond forever
greatest-max-odd count [] = refl
greatest-max-odd count (marks ∷ forever) = ap (max (beyond marks)) (greatest-max-odd count forever)

greatest-max-even : (count : ℕ) (forever : List (List ℕ)) → 0 < length forever
    → greatest_number (map (priority_by Max Even count) forever) ≡ most_beyond forever + 1
greatest-max-even count [] more = absurd (omega arith)
greatest-max-even count (marks ∷ []) more = omega arith
greatest-max-even count (marks ∷ next ∷ forever) more = omega (arith, greatest-max-even count (next ∷ forever) (omega arith))

greatest-min : (parity : Parity) (count : ℕ) (forever : List (List ℕ)) → 0 < length forever
    → greatest_number (map (priority_by Min parity count) forever) ≡ least_from parity count - lowest count forever
greatest-min parity count [] more = absurd (omega arith)
greatest-min parity count (marks ∷ []) more = omega (arith, least_mark-le count marks)
greatest-min parity count (marks ∷ next ∷ forever) more = omega (arith, greatest-min parity count (next ∷ forever) (omega arith))

-- no mark is beyond the count
beyond-le : (count : ℕ) (marks : List ℕ) → All (λ mark. mark < count) marks → beyond marks ≤ count
beyond-le count [] within = omega arith
beyond-le count (mark ∷ marks) within =
    omega (arith, within 0 0 (omega arith), beyond-le count marks (λ k d lt. within (suc k) d (omega arith)))

most_beyond-le : (count : ℕ) (forever : List (List ℕ)) → All (λ marks. All (λ mark. mark < count) marks) forever → most_beyond forever ≤ count
most_beyond-le count [] within = omega arith
most_beyond-le count (marks ∷ forever) within =
    omega (arith, beyond-le count marks (within 0 [] (omega arith)), most_beyond-le count forever (λ k d lt. within (suc k) d (omega arith)))

-- ---- the theorem

-- the formula holds where the greatest priority is even
pub accepts-greatest : (order : Order) (parity : Parity) (count : ℕ) (forever : List (List ℕ)) → 0 < length forever
    → All (λ marks. All (λ mark. mark < count) marks) forever
    → accepts forever (formula_of order parity (sets_left order count count)) ≡ has_parity Even (greatest_number (map (priority_by order parity count) forever))
accepts-greatest Max Even count forever more within =
    max-value Even count count forever (most_beyond-le count forever within)
    ∙ (sym (has_parity-suc Even (most_beyond forever))
    ∙ ap (has_parity Even) (sym (greatest-max-even count forever more ∙ add-one (most_beyond forever))))
accepts-greatest Max Odd count forever more within =
    max-value Odd count count forever (most_beyond-le count forever within)
    ∙ (sym (even-not-odd (most_beyond forever)) ∙ ap (has_parity Even) (sym (greatest-max-odd count forever)))
accepts-greatest Min parity count forever more within =
    min-value-all parity count forever
    ∙ (sym (even-difference parity (least_from parity count) (lowest count forever) (omega (arith, lowest-le count forever, least_from-le parity count)) (least_from-parity parity count))
    ∙ ap (has_parity Even) (sym (greatest-min parity count forever more)))
