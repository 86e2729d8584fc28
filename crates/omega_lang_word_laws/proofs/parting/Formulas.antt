-- A formula and its dual part the marks.
use Rattle.std.proofs.Common.{◌≡◌, ℕ, ◌⊎◌, inl, inr, Bool, true, false, not, List, refl, sym, ap, ◌∙◌, true≢false}
use Rattle.omega_hoa_acceptance.specs.Acceptance.{AccTree, conjunction, constant, disjunction, fin, holds, inf}
use Rattle.omega_graph.specs.Marks.{meets}
use Rattle.omega_lang_runs.specs.Runs.{AtLastNever, ForEver, Satisfies}
use Rattle.omega_hoa_acceptance.specs.Dual.{dual}
use Rattle.omega_text.proofs.Omniscience.{RecursOrCeases}

-- marks hold the same sets, index by index
abbrev pub AreSame : (ℕ → List ℕ) → (ℕ → List ℕ) → Type 0
AreSame marks others = (i set : ℕ) → holds set (marks i) ≡ holds set (others i)

meets_same : (negated : Bool) (set : ℕ) (marks others : List ℕ) → holds set marks ≡ holds set others → meets negated set marks ≡ meets negated set others
meets_same true set marks others e = ap not e
meets_same false set marks others e = e

pub no_both : (formula : AccTree) (marks others : ℕ → List ℕ) → AreSame marks others → Satisfies marks formula → Satisfies others (dual formula) → ⊥
no_both (constant true) marks others same one other = true≢false (sym other)
no_both (constant false) marks others same one other = true≢false (sym one)
no_both (inf negated set) marks others same one other =
    let at = one other.0 in
    true≢false (sym at.2 ∙ meets_same negated set (marks at.0) (others at.0) (same at.0 set) ∙ other.1 at.0 at.1)
no_both (fin negated set) marks others same one other =
    let at = other one.0 in
    true≢false (sym at.2 ∙ sym (meets_same negated set (marks at.0) (others at.0) (same at.0 set)) ∙ one.1 at.0 at.1)
no_both (conjunction left right) marks others same one (inl other) = no_both left marks others same one.0 other
no_both (conjunction left right) marks others same one (inr other) = no_both right marks others same one.1 other
no_both (disjunction left right) marks others same (inl one) other = no_both left marks others same one other.0
no_both (disjunction left right) marks others same (inr one) other = no_both right marks others same one other.1

-- of each set it is known whether marks are in it infinitely often
abbrev pub AreSettled : (ℕ → List ℕ) → Type 0
AreSettled marks = (negated : Bool) (set : ℕ) → RecursOrCeases (λ j. meets negated set (marks j))

recurs_same : (test other : ℕ → Bool) → ((j : ℕ) → test j ≡ other j) → RecursOrCeases test → RecursOrCeases other
recurs_same test other same (inl always) = inl (λ i. let at = always i in (at.0, at.1, sym (same at.0) ∙ at.2))
recurs_same test other same (inr never) = inr (never.0, λ j past. sym (same j) ∙ never.1 j past)

pub settled_same : (marks others : ℕ → List ℕ) → ((i : ℕ) → marks i ≡ others i) → AreSettled marks → AreSettled others
settled_same marks others same settled negated set =
    recurs_same (λ j. meets negated set (marks j)) (λ j. meets negated set (others j)) (λ j. ap (meets negated set) (same j)) (settled negated set)

pub one_of_both : (formula : AccTree) (marks others : ℕ → List ℕ) → AreSettled marks → AreSame marks others
    → Satisfies marks formula ⊎ Satisfies others (dual formula)
one_of_both (constant true) marks others settled same = inl refl
one_of_both (constant false) marks others settled same = inr refl
one_of_both (inf negated set) marks others settled same = go (settled negated set)
  where
    go : RecursOrCeases (λ j. meets negated set (marks j)) → ForEver marks negated set ⊎ AtLastNever others negated set
    go (inl always) = inl always
    go (inr never) = inr (never.0, λ j past. sym (meets_same negated set (marks j) (others j) (same j set)) ∙ never.1 j past)
one_of_both (fin negated set) marks others settled same = go (settled negated set)
  where
    go : RecursOrCeases (λ j. meets negated set (marks j)) → AtLastNever marks negated set ⊎ ForEver others negated set
    go (inl always) = inr (λ i. let at = always i in (at.0, at.1, sym (meets_same negated set (marks at.0) (others at.0) (same at.0 set)) ∙ at.2))
    go (inr never) = inl never
one_of_both (conjunction left right) marks others settled same = go (one_of_both left marks others settled same) (one_of_both right marks others settled same)
  where
    go : Satisfies marks left ⊎ Satisfies others (dual left) → Satisfies marks right ⊎ Satisfies others (dual right)
        → (Satisfies marks left × Satisfies marks right) ⊎ (Satisfies others (dual left) ⊎ Satisfies others (dual right))
    go (inl one) (inl other) = inl (one, other)
    go (inl one) (inr other) = inr (inr other)
    go (inr one) other = inr (inl one)
one_of_both (disjunction left right) marks others settled same = go (one_of_both left marks others settled same) (one_of_both right marks others settled same)
  where
    go : Satisfies marks left ⊎ Satisfies others (dual left) → Satisfies marks right ⊎ Satisfies others (dual right)
        → (Satisfies marks left ⊎ Satisfies marks right) ⊎ (Satisfies others (dual left) × Satisfies others (dual right))
    go (inl one) other = inl (inl one)
    go (inr one) (inl other) = inl (inr other)
    go (inr one) (inr other) = inr (one, other)
