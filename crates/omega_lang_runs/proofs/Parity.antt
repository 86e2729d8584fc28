-- Infinitely many marks of a parity kind satisfy its formula exactly if the limit of their priorities is even.
use Rattle.std.proofs.Common.{◌≡◌, ◌↔◌, ℕ, zero, suc, ◌+◌, ◌-◌, ◌%◌, ◌<◌, ◌≤◌, inl, inr, Bool, true, false, ◌||◌, eqb, List, [], ◌∷◌, length, map, All, sym, ap, refl, ◌∙◌, subst, arith, eq-eqb}
use Rattle.std.specs.Prelude.{if◌then◌else◌}
use Rattle.std.proofs.lemmas.Bool.{and_from, and_parts, both_ways, cases_Bool, cases_eq, ne_eqb, not-true, not_from_false, or_cases, or_from, or_left, or_right}
use Rattle.std.proofs.lemmas.List.Elements.{All-cons, All-nil}
use Rattle.omega_hoa_parity_kind.specs.Priority.{beyond, greatest_number, has_parity, least_from, least_mark, priority_by, priority_of}
use Rattle.omega_hoa_parity_kind.specs.declared.kind.Order.{Order}
use Rattle.omega_hoa_parity_kind.specs.declared.kind.Order.TheVariants.{Max, Min}
use Rattle.omega_hoa_parity_kind.specs.declared.kind.Parity.{Parity}
use Rattle.omega_hoa_parity_kind.specs.declared.kind.Parity.TheVariants.{Even, Odd}
use Rattle.omega_hoa_parity_kind.specs.declared.kind.ParityKind.{ParityKind}
use Rattle.omega_hoa_parity_kind.proofs.PriorityLemmas.{least_mark-le}
use Rattle.omega_hoa_parity_kind.proofs.Parities.{least_from-le}
use Rattle.omega_hoa_acceptance.specs.Acceptance.{AccTree, accepts, conjunction, disjunction, fin, holds, inf, occurs}
use Rattle.omega_hoa_acceptance.specs.Kind.{formula_of, joined_to, parity_formula, sets_left}
use Rattle.omega_hoa_acceptance.specs.KindLaws.{ParityIsPriority}
use Rattle.omega_lang_runs.specs.Parity.{IsLimit, ParityIsLimit}
use Rattle.omega_lang_runs.specs.Runs.{AtLastNever, ForEver, Satisfies}
use Rattle.omega_lang_runs.proofs.Leads.{or_false}

-- ---- the deciding marks

-- the greatest mark is held, and none above it
holds_greatest : (marks : List ℕ) (set : ℕ) → beyond marks ≡ suc set → holds set marks ≡ true
holds_greatest [] set e = absurd (omega arith)
holds_greatest (mark ∷ marks) set e = elim (cases_eq mark set) [
  | inl same ↦ or_left (eqb mark set) (holds set marks) (eq-eqb mark set same)
  | inr other ↦ or_right (eqb mark set) (holds set marks) (holds_greatest marks set (omega arith))
]

lacks_greater : (marks : List ℕ) (set : ℕ) → beyond marks ≤ set → holds set marks ≡ false
lacks_greater [] set least = refl
lacks_greater (mark ∷ marks) set least =
    or_from (eqb mark set) (holds set marks) (ne_eqb mark set (λ same. omega arith)) (lacks_greater marks set (omega arith))

-- the least mark is held, and none below it
holds_least : (count : ℕ) (marks : List ℕ) (set : ℕ) → set < count → least_mark count marks ≡ set → holds set marks ≡ true
holds_least count [] set within e = absurd (omega arith)
holds_least count (mark ∷ marks) set within e = elim (cases_eq mark set) [
  | inl same ↦ or_left (eqb mark set) (holds set marks) (eq-eqb mark set same)
  | inr other ↦ or_right (eqb mark set) (holds set marks) (holds_least count marks set within (omega arith))
]

lacks_lesser : (count : ℕ) (marks : List ℕ) (set : ℕ) → set < least_mark count marks → holds set marks ≡ false
lacks_lesser count [] set below = refl
lacks_lesser count (mark ∷ marks) set below =
    or_from (eqb mark set) (holds set marks) (ne_eqb mark set (λ same. omega arith)) (lacks_lesser count marks set (omega arith))

-- no mark is beyond the count
beyond_low : (count : ℕ) (marks : List ℕ) → All (λ mark. mark < count) marks → beyond marks ≤ count
beyond_low count [] within = omega arith
beyond_low count (mark ∷ marks) within =
    omega (arith, within 0 0 (omega arith), beyond_low count marks (λ k d less. within (suc k) d (omega arith)))

module _ (marks : ℕ → List ℕ) (here : ℕ) where
  -- sets in the order of a formula, up to one that comes for ever, as the marks at an index have them: those before it
  -- at last come never, and are not held there, and it is
  data AreDecided : List ℕ → Type 0 where
    none : AreDecided []
    comes : {set : ℕ} {rest : List ℕ} → ForEver marks false set → holds set (marks here) ≡ true → AreDecided (set ∷ rest)
    passes : {set : ℕ} {rest : List ℕ} → AtLastNever marks false set → holds set (marks here) ≡ false → AreDecided rest → AreDecided (set ∷ rest)

  -- no set comes for ever and at last never
  not_both : (set : ℕ) → ForEver marks false set → AtLastNever marks false set → ⊥
  not_both set ever never =
      let again = ever never.0 in both_ways (holds set (marks again.0)) (never.1 again.0 again.1) again.2

  -- the marks there alone
  abbrev alone : List (List ℕ)
  alone = marks here ∷ []

  occurs_alone : (set : ℕ) (value : Bool) → holds set (marks here) ≡ value → occurs alone false set ≡ value
  occurs_alone set value is = or_false (holds set (marks here)) ∙ is

  abbrev Agree : Order → Parity → List ℕ → Type 0
  Agree order parity sets = Satisfies marks (formula_of order parity sets) ↔ (accepts alone (formula_of order parity sets) ≡ true)

  -- the formula of such sets is satisfied exactly if it holds of the marks there alone
  decided_agree : (order : Order) (parity : Parity) (sets : List ℕ) → AreDecided sets → Agree order parity sets
  decided_agree order parity [] none = (λ is. is, λ is. is)
  decided_agree order parity (set ∷ []) (comes ever held) = go (has_parity parity set)
    where
      go : (b : Bool) → Satisfies marks (if b then inf false set else fin false set) ↔ (accepts alone (if b then inf false set else fin false set) ≡ true)
      go true = (λ satisfied. occurs_alone set true held, λ accepted. ever)
      go false = (
        λ never. absurd (not_both set ever never),
        λ accepted. absurd (both_ways (occurs alone false set) (not-true (occurs alone false set) accepted) (occurs_alone set true held)),
      )
  decided_agree order parity (set ∷ []) (passes never lacked rest) = go (has_parity parity set)
    where
      go : (b : Bool) → Satisfies marks (if b then inf false set else fin false set) ↔ (accepts alone (if b then inf false set else fin false set) ≡ true)
      go true = (
        λ ever. absurd (not_both set ever never),
        λ accepted. absurd (both_ways (occurs alone false set) (occurs_alone set false lacked) accepted),
      )
      go false = (λ satisfied. not_from_false (occurs alone false set) (occurs_alone set false lacked), λ accepted. never)
  decided_agree order parity (set ∷ next ∷ sets) (comes ever held) = go (has_parity parity set)
    where
      others : AccTree
      others = formula_of order parity (next ∷ sets)

      go : (b : Bool) → Satisfies marks (if b then disjunction (inf false set) others else conjunction (fin false set) others)
          ↔ (accepts alone (if b then disjunction (inf false set) others else conjunction (fin false set) others) ≡ true)
      go true = (λ satisfied. or_left (occurs alone false set) (accepts alone others) (occurs_alone set true held), λ accepted. inl ever)
      go false = (
        λ satisfied. absurd (not_both set ever satisfied.0),
        λ accepted. absurd (both_ways (occurs alone false set)
            (not-true (occurs alone false set) (and_parts (accepts alone (fin false set)) (accepts alone others) accepted).0) (occurs_alone set true held)),
      )
  decided_agree order parity (set ∷ next ∷ sets) (passes never lacked rest) = go (has_parity parity set) (decided_agree order parity (next ∷ sets) rest)
    where
      others : AccTree
      others = formula_of order parity (next ∷ sets)

      first : Satisfies marks (disjunction (inf false set) others) → Satisfies marks others
      first (inl ever) = absurd (not_both set ever never)
      first (inr later) = later

      go : (b : Bool) → Satisfies marks others ↔ (accepts alone others ≡ true)
          → Satisfies marks (if b then disjunction (inf false set) others else conjunction (fin false set) others)
          ↔ (accepts alone (if b then disjunction (inf false set) others else conjunction (fin false set) others) ≡ true)
      go true agree = (
        λ satisfied. or_right (occurs alone false set) (accepts alone others) (agree.0 (first satisfied)),
        λ accepted. elim (or_cases (occurs alone false set) (accepts alone others) accepted) [
          | inl occurs_here ↦ absurd (both_ways (occurs alone false set) (occurs_alone set false lacked) occurs_here)
          | inr later ↦ inr (agree.1 later)
        ],
      )
      go false agree = (
        λ satisfied. and_from (accepts alone (fin false set)) (accepts alone others)
            (not_from_false (occurs alone false set) (occurs_alone set false lacked)) (agree.0 satisfied.1),
        λ accepted. (never, agree.1 (and_parts (accepts alone (fin false set)) (accepts alone others) accepted).1),
      )

  -- for max: the greatest mark there comes for ever, and from an index on none above it
  module _ (recurring : (i : ℕ) → (j : ℕ) × (i ≤ j) × (beyond (marks j) ≡ beyond (marks here))) (from : ℕ)
      (none_greater : (i : ℕ) → from ≤ i → beyond (marks i) ≤ beyond (marks here)) where
    decided_max : (count left : ℕ) → beyond (marks here) ≤ left → AreDecided (sets_left Max count left)
    decided_max count zero low = none
    decided_max count (suc left) low = elim (cases_eq (beyond (marks here)) (suc left)) [
      | inl same ↦ comes
          (λ i. (let again = recurring i in (again.0, again.1, holds_greatest (marks again.0) left (again.2 ∙ same))))
          (holds_greatest (marks here) left same)
      | inr other ↦ passes
          (from, λ j late. lacks_greater (marks j) left (omega (arith, none_greater j late)))
          (lacks_greater (marks here) left (omega arith)) (decided_max count left (omega arith))
    ]

  -- for min: the least mark there comes for ever, and from an index on none below it
  module _ (count : ℕ) (recurring : (i : ℕ) → (j : ℕ) × (i ≤ j) × (least_mark count (marks j) ≡ least_mark count (marks here))) (from : ℕ)
      (none_less : (i : ℕ) → from ≤ i → least_mark count (marks here) ≤ least_mark count (marks i)) where
    decided_min : (left : ℕ) → left ≤ count → count - left ≤ least_mark count (marks here) → AreDecided (sets_left Min count left)
    decided_min zero within high = none
    decided_min (suc left) within high = elim (cases_eq (least_mark count (marks here)) (count - suc left)) [
      | inl same ↦ comes
          (λ i. (let again = recurring i in
          (again.0, again.1, holds_least count (marks again.0) (count - suc left) (omega arith) (again.2 ∙ same))))
          (holds_least count (marks here) (count - suc left) (omega arith) same)
      | inr other ↦ passes
          (from, λ j late. lacks_lesser count (marks j) (count - suc left) (omega (arith, none_less j late)))
          (lacks_lesser count (marks here) (count - suc left) (omega arith)) (decided_min left (omega arith) (omega arith))
    ]

-- the sets of a kind are decided by marks whose priority is the limit
limit_decides : (order : Order) (parity : Parity) (count : ℕ) (marks : ℕ → List ℕ) (limit here : ℕ)
    → ((i : ℕ) → All (λ mark. mark < count) (marks i))
    → IsLimit (λ i. priority_by order parity count (marks i)) limit → priority_by order parity count (marks here) ≡ limit
    → AreDecided marks here (sets_left order count count)
limit_decides Max Even count marks limit here within is_limit at =
    decided_max marks here
    (λ i. (let again = is_limit.recurring i in (again.0, again.1, omega (arith, again.2, at))))
    is_limit.from (λ i late. omega (arith, is_limit.none_greater i late, at)) count count (beyond_low count (marks here) (within here))
limit_decides Max Odd count marks limit here within is_limit at =
    decided_max marks here
    (λ i. (let again = is_limit.recurring i in (again.0, again.1, again.2 ∙ sym at)))
    is_limit.from (λ i late. omega (arith, is_limit.none_greater i late, at)) count count (beyond_low count (marks here) (within here))
limit_decides Min parity count marks limit here within is_limit at =
    decided_min marks here count
    (λ i. (let again = is_limit.recurring i in (
      again.0,
      again.1,
      omega (arith, again.2, at, least_mark-le count (marks again.0), least_mark-le count (marks here), least_from-le parity count),
    )))
    is_limit.from
    (λ i late. omega (
      arith,
      is_limit.none_greater i late,
      at,
      least_mark-le count (marks i),
      least_mark-le count (marks here),
      least_from-le parity count,
    ))
    count (omega arith) (omega arith)

pub parity_is_limit : ParityIsPriority → ParityIsLimit
parity_is_limit priority kind marks limit within is_limit =
    let found = is_limit.recurring 0 in
    let here : ℕ = found.0 in
    let agree = decided_agree marks here kind.order kind.parity (sets_left kind.order kind.count kind.count)
    (limit_decides kind.order kind.parity kind.count marks limit here within is_limit found.2) in
    let finite = priority kind (marks here ∷ []) (omega arith) (All-cons (λ (one : List ℕ). All (λ mark. mark < kind.count) one) (marks here) [] (within here) (All-nil (λ (one : List ℕ). All (λ mark. mark < kind.count) one))) in
    let greatest : greatest_number (map (priority_of kind) (marks here ∷ [])) ≡ limit = omega (arith, found.2) in (
      λ satisfied. ap (λ n. n % 2) (sym greatest) ∙ finite.0 (agree.0 satisfied),
      λ even. agree.1 (finite.1 (ap (λ n. n % 2) greatest ∙ even)),
    )
