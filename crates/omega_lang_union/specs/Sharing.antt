-- The sets and the acceptance of a union (HOA v1, acceptance). A run of a union is one of one of the two automata, and
-- its edges have no marks of the other. So the formula of the other may hold of the run only if it holds of a run
-- without any marks. If it does, it gets a guard, which is a further set that all edges of its own automaton are in.
use Rattle.std.specs.Prelude.{◌≡◌, ◌⊎◌, ℕ, ◌+◌, Bool, true, false, if◌then◌else◌}
use Rattle.std.specs.Prelude.{List, [], ◌∷◌, length, Option, Some, None}
use Rattle.std.specs.List.{cons_option}
use Rattle.std.specs.Option.{option_or}
use Rattle.omega_hoa_acceptance.specs.Acceptance.{AccTree, accepts, conjunction, disjunction, inf}
use Rattle.omega_hoa_acceptance.specs.declared.name.AccName.{AccName}
use Rattle.omega_hoa_automaton.specs.Automaton.{Description}
use Rattle.omega_lang_product.specs.Acceptance.{moved_after}
use Rattle.omega_lang_union.specs.declared.sharing.Sharing.{Sharing}

-- two automata have one acceptance formula over as many sets
abbrev pub AreAlike : Description → Description → Type 0
AreAlike one other = (one.sets ≡ other.sets) × (one.acceptance ≡ other.acceptance)

-- whether a formula holds of a run whose edges have no marks
abbrev pub holds_unmarked : AccTree → Bool
holds_unmarked formula = accepts ([] ∷ []) formula

-- the guard of a formula, if it needs one: the set with this number
abbrev pub guard_of : ℕ → AccTree → Option ℕ
guard_of number formula = if holds_unmarked formula then Some number else None

-- the set of a guard, if there is one
abbrev pub guard_sets : Option ℕ → List ℕ
guard_sets guard = cons_option guard []

-- a formula that holds only of runs that are in its guard infinitely often
abbrev pub guarded : Option ℕ → AccTree → AccTree
guarded None formula = formula
guarded (Some set) formula = conjunction (inf false set) formula

-- both automata use the same sets
abbrev pub shared_sets : Description → Sharing
shared_sets one = record { shared = true; before = 0; first = None; second = None; sets = one.sets }

-- the sets of the second automaton come after those of the first, and the guards after both
abbrev pub separate_sets : Description → Description → Sharing
separate_sets one other =
    let sets = one.sets + other.sets in
    let first = guard_of sets one.acceptance in
    let guards = sets + length (guard_sets first) in
    let second = guard_of guards other.acceptance in
    let all = guards + length (guard_sets second) in
    record { shared = false; before = one.sets; first = first; second = second; sets = all }

-- automata that are alike share their sets, and others do not
abbrev pub IsSharing : Description → Description → Sharing → Type 0
IsSharing one other sharing =
    (AreAlike one other × (sharing ≡ shared_sets one))
    ⊎ ((AreAlike one other → ⊥) × (sharing ≡ separate_sets one other))

-- the acceptance of a union: the formula that both have, or one of the two with its guard
abbrev pub union_acceptance : Sharing → Description → Description → AccTree
union_acceptance sharing one other =
    if sharing.shared then one.acceptance
    else disjunction (guarded sharing.first one.acceptance)
    (guarded sharing.second (moved_after sharing.before other.acceptance))

-- the name of that acceptance: that of the first, or else of the second, if both have one formula
abbrev pub union_name : Sharing → Description → Description → Option AccName
union_name sharing one other = if sharing.shared then option_or one.acc_name other.acc_name else None
