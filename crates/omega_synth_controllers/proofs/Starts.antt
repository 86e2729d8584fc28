-- The starts of an automaton without universal branching.
use Rattle.std.proofs.Common.{◌≡◌, ℕ, ◌<◌, ◌≤◌, false, List, [], ◌∷◌, length, get_or, ltb, Contains, sym, refl, subst, arith}
use Rattle.std.specs.List.{list_any}
use Rattle.std.proofs.lemmas.Bool.{ltb-false, or_parts}
use Rattle.std.proofs.lemmas.List.{get_or_default}
use Rattle.std.proofs.lemmas.List.Elements.{Contains-get_or}
use Rattle.omega_hoa_automaton.specs.Automaton.{AreTargets, Description, IsAutomaton}
use Rattle.omega_hoa_automaton.specs.Branching.{has_universal_branching, state_branches}
use Rattle.omega_lang_runs.specs.Lasso.{IsStart}
use Rattle.omega_lang_runs.proofs.SingleTargets.{none_passes}

-- a start lists one state
pub one_start : (a : Description) → IsAutomaton a → has_universal_branching a ≡ false → (index : ℕ) (start : List ℕ) → index < length a.starts
    → start ≡ get_or a.starts index start → (0 < length start) × (start ≡ get_or start 0 0 ∷ [])
one_start a automaton plain index start below here =
    let listed : AreTargets a start =
    subst (AreTargets a) (sym here) (automaton.starts index start below) in
    let single : length start ≤ 1 =
    ltb-false 1 (length start) (none_passes (λ (s : List ℕ). ltb 1 (length s)) a.starts index start (or_parts (list_any (λ (s : List ℕ). ltb 1 (length s)) a.starts) (list_any state_branches a.defined) plain).0 below here) in
    (listed.listed, alone start listed.listed single)
  where
    alone : (xs : List ℕ) → 0 < length xs → length xs ≤ 1 → xs ≡ get_or xs 0 0 ∷ []
    alone [] some single = absurd (omega arith)
    alone (x ∷ []) some single = refl
    alone (x ∷ y ∷ ys) some single = absurd (omega arith)

-- so the first of them is a start
pub first_start : (a : Description) → IsAutomaton a → has_universal_branching a ≡ false → 0 < length a.starts → (start : ℕ) × IsStart a start
first_start a automaton plain some =
    let first : List ℕ = get_or a.starts 0 [] in
    let one = one_start a automaton plain 0 first some (get_or_default a.starts 0 [] first some) in
    (get_or first 0 0, subst (λ (s : List ℕ). Contains a.starts s) one.1 (Contains-get_or a.starts 0 [] some))
