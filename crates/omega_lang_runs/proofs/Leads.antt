-- Edges that lead from a state to a state: joined, and in laps.
use Rattle.std.proofs.Common.{◌≡◌, ℕ, zero, suc, Bool, true, false, ◌||◌, List, [], ◌∷◌, ◌++◌, sym, ap, refl, ◌∙◌, subst}
use Rattle.omega_hoa_acceptance.specs.Acceptance.{occurs}
use Rattle.omega_hoa_automaton.specs.Automaton.{Description}
use Rattle.omega_lang_runs.specs.Lasso.{Leads}
use Rattle.omega_graph.specs.Marks.{meets}

-- two lists of edges, joined
pub leads_on : (a : Description) (s : ℕ) (xs : List ℕ) (t : ℕ) (ys : List ℕ) (u : ℕ)
    → Leads a s xs t → Leads a t ys u → Leads a s (xs ++ ys) u
leads_on a s [] t ys u first second = let P : ℕ → Type 0 = λ n. Leads a n ys u in subst P (sym first) second
leads_on a s (x ∷ xs) t ys u first second = (first.0, first.1, leads_on a first.0 xs t ys u first.2 second)

-- a list of edges, repeated `n` times
abbrev pub laps : List ℕ → ℕ → List ℕ
laps cycle zero = []
laps cycle (suc n) = cycle ++ laps cycle n

-- a repeated cycle leads back
pub laps_lead : (a : Description) (s : ℕ) (cycle : List ℕ) (n : ℕ) → Leads a s cycle s → Leads a s (laps cycle n) s
laps_lead a s cycle zero leads = refl
laps_lead a s cycle (suc n) leads = leads_on a s cycle s (laps cycle n) s leads (laps_lead a s cycle n leads)

or_assoc : (x y z : Bool) → ((x || y) || z) ≡ (x || (y || z))
or_assoc true y z = refl
or_assoc false y z = refl

pub or_same : (x : Bool) → (x || x) ≡ x
or_same true = refl
or_same false = refl

pub or_false : (x : Bool) → (x || false) ≡ x
or_false true = refl
or_false false = refl

-- a set occurs in joined lists of marks exactly if it occurs in one of them
pub occurs_on : (negated : Bool) (set : ℕ) (xs ys : List (List ℕ)) → occurs (xs ++ ys) negated set ≡ (occurs xs negated set || occurs ys negated set)
occurs_on negated set [] ys = refl
occurs_on negated set (x ∷ xs) ys =
    ap (λ b. meets negated set x || b) (occurs_on negated set xs ys) ∙ sym (or_assoc (meets negated set x) (occurs xs negated set) (occurs ys negated set))
