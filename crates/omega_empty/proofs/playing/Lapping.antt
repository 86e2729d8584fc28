-- Laps of a cycle: what they bring a counter to, and that they are accepted as the cycle is.
use Rattle.std.proofs.Common.{◌≡◌, ℕ, zero, suc, ◌+◌, ◌<◌, Bool, not, ◌&&◌, ◌||◌, List, [], ◌∷◌, ◌++◌, length, map, ap, refl, ◌∙◌, arith, append_assoc, length-append}
use Rattle.std.proofs.lemmas.List.{map-append}
use Rattle.omega_hoa_acceptance.specs.Acceptance.{AccTree, accepts, conjunction, constant, disjunction, fin, inf, occurs}
use Rattle.omega_hoa_acceptance.specs.declared.kind.AccKind.{AccKind}
use Rattle.omega_empty.specs.Counters.{counter_after}
use Rattle.omega_empty.proofs.Counters.{counter_after_marks}
use Rattle.omega_lang_runs.proofs.Leads.{laps, occurs_on, or_false, or_same}

-- a number of laps and then more
pub laps_on : (cycle : List ℕ) (p m q : ℕ) → p + m ≡ q → laps cycle p ++ laps cycle m ≡ laps cycle q
laps_on cycle zero m q sum = let e : m ≡ q = omega arith in ap (laps cycle) e
laps_on cycle (suc p) m zero sum = absurd (omega arith)
laps_on cycle (suc p) m (suc q) sum = append_assoc cycle (laps cycle p) (laps cycle m) ∙ ap (λ list. cycle ++ list) (laps_on cycle p m q (omega arith))

-- the counter after some marks and then others
pub counter_on : (kind : AccKind) (counter : ℕ) (xs ys : List (List ℕ)) → counter_after_marks kind counter (xs ++ ys) ≡ counter_after_marks kind (counter_after_marks kind counter xs) ys
counter_on kind counter [] ys = refl
counter_on kind counter (x ∷ xs) ys = counter_on kind (counter_after kind counter x) xs ys

-- laps are some edges
pub laps_longer : (cycle : List ℕ) (m : ℕ) → 0 < length cycle → 0 < m → 0 < length (laps cycle m)
laps_longer cycle zero longer some = some
laps_longer cycle (suc m) longer some = omega (arith, length-append cycle (laps cycle m))

module _ (marks : ℕ → List ℕ) (cycle : List ℕ) where
  -- what occurs in laps occurs in the cycle
  laps_occur : (negated : Bool) (set m : ℕ) → occurs (map marks (laps cycle (suc m))) negated set ≡ occurs (map marks cycle) negated set
  laps_occur negated set zero =
      ap (λ list. occurs list negated set) (map-append marks cycle []) ∙ occurs_on negated set (map marks cycle) [] ∙ or_false (occurs (map marks cycle) negated set)
  laps_occur negated set (suc m) =
      ap (λ list. occurs list negated set) (map-append marks cycle (laps cycle (suc m))) ∙ occurs_on negated set (map marks cycle) (map marks (laps cycle (suc m)))
      ∙ ap (λ b. occurs (map marks cycle) negated set || b) (laps_occur negated set m) ∙ or_same (occurs (map marks cycle) negated set)

  same_accepts : (xs ys : List (List ℕ)) → ((negated : Bool) (set : ℕ) → occurs xs negated set ≡ occurs ys negated set) → (f : AccTree) → accepts xs f ≡ accepts ys f
  same_accepts xs ys same (constant value) = refl
  same_accepts xs ys same (inf negated set) = same negated set
  same_accepts xs ys same (fin negated set) = ap not (same negated set)
  same_accepts xs ys same (conjunction left right) =
      ap (λ b. b && accepts xs right) (same_accepts xs ys same left) ∙ ap (λ b. accepts ys left && b) (same_accepts xs ys same right)
  same_accepts xs ys same (disjunction left right) =
      ap (λ b. b || accepts xs right) (same_accepts xs ys same left) ∙ ap (λ b. accepts ys left || b) (same_accepts xs ys same right)

  -- laps are accepted exactly as the cycle is
  pub laps_accept : (m : ℕ) (f : AccTree) → 0 < m → accepts (map marks (laps cycle m)) f ≡ accepts (map marks cycle) f
  laps_accept zero f some = absurd (omega arith)
  laps_accept (suc m) f some = same_accepts (map marks (laps cycle (suc m))) (map marks cycle) (λ negated set. laps_occur negated set m) f
