-- The next edge to a state, from the last edge on to the first.
use Rattle.std.proofs.Common.{◌≡◌, ℕ, ◌+◌, ◌<◌, ◌≤◌, ◌==◌, cond, Option, Some, None, List, length, get_or, set, sym, ap, ◌∙◌, arith, ⊎_elim}
use Rattle.std.specs.List.{position_from}
use Rattle.std.specs.Ordering.{nat_cmp}
use Rattle.std.specs.BTreeMap.{is_at}
use Rattle.std.proofs.lemmas.Bool.{cases_eq}
use Rattle.std.proofs.lemmas.List.{drop_more, get_or-set_other, get_or-set_same}
use Rattle.omega_hoa_dot.specs.Arrows.{is_to}
use Rattle.omega_hoa_dot.specs.private.layout.Sharing.{next_to}

-- from an edge on
next_here : (targets : List (Option ℕ)) (i target : ℕ) (o : Option ℕ) → i < length targets → get_or targets i None ≡ o
    → next_to targets i target ≡ cond (is_to target o) (Some i) (next_to targets (i + 1) target)
next_here targets i target o below here =
    ap (position_from (is_to target) i) (drop_more targets i None below)
    ∙ ap (λ o. cond (is_to target o) (Some i) (next_to targets (i + 1) target)) here

-- an edge to no one state is passed
pub none_passed : (targets : List (Option ℕ)) (i last target : ℕ) (first : Option ℕ) → i < length targets → last ≡ i + 1 → get_or targets i None ≡ None
    → first ≡ next_to targets last target → first ≡ next_to targets i target
none_passed targets i last target first below e here known =
    known ∙ ap (λ n. next_to targets n target) e ∙ sym (next_here targets i target None below here)

-- an edge to a state is the first to it from there on
pub first_passed : (targets : List (Option ℕ)) (i last target q : ℕ) (before after : Option ℕ) → i < length targets → last ≡ i + 1 → get_or targets i None ≡ Some target
    → before ≡ next_to targets last q → after ≡ cond (is_at (nat_cmp target) q) (Some i) before → after ≡ next_to targets i q
first_passed targets i last target q before after below e here known step =
    step ∙ ap (λ b. cond b (Some i) before) (at_is target q)
    ∙ ap (λ o. cond (target == q) (Some i) o) (known ∙ ap (λ n. next_to targets n q) e)
    ∙ sym (next_here targets i q (Some target) below here)
  where
    at_is : (x y : ℕ) → is_at (nat_cmp x) y ≡ (x == y)
    at_is x y = grind arith

-- what is next after each edge from one on, with one edge more
pub next_passed : (targets next : List (Option ℕ)) (i last : ℕ) (entry : Option ℕ) → length next ≡ length targets → last ≡ i + 1 → i < length targets
    → ((index target : ℕ) → last ≤ index → index < length targets → get_or targets index None ≡ Some target → get_or next index None ≡ next_to targets (index + 1) target)
    → ((target : ℕ) → get_or targets i None ≡ Some target → entry ≡ next_to targets last target)
    → (index target : ℕ) → i ≤ index → index < length targets → get_or targets index None ≡ Some target
    → get_or (set next i entry) index None ≡ next_to targets (index + 1) target
next_passed targets next i last entry entries e below known one index target from within here =
    ⊎_elim
    (λ same. ap (λ n. get_or (set next i entry) n None) (sym same)
    ∙ get_or-set_same next i entry None (omega (arith, below, entries))
    ∙ one target (ap (λ n. get_or targets n None) same ∙ here)
    ∙ ap (λ n. next_to targets n target) (e ∙ ap (λ n. n + 1) same))
    (λ other. get_or-set_other next i index entry None (λ q. other (sym q)) ∙ known index target (omega arith) within here)
    (cases_eq i index)

-- an edge leads to one state alone
pub same_target : (targets : List (Option ℕ)) (i target other : ℕ) → get_or targets i None ≡ Some target → get_or targets i None ≡ Some other → target ≡ other
same_target targets i target other here there = cc

-- an edge from one on that leads to a state is after it, if it leads to none
pub beyond : (targets : List (Option ℕ)) (i last index target : ℕ) → last ≡ i + 1 → get_or targets i None ≡ None → i ≤ index
    → get_or targets index None ≡ Some target → last ≤ index
beyond targets i last index target e here from there =
    ⊎_elim (λ same. absurd (none_some target (sym here ∙ ap (λ n. get_or targets n None) same ∙ there))) (λ other. omega arith) (cases_eq i index)
  where
    none_some : (target : ℕ) → (let o : Option ℕ = None in o) ≡ Some target → ⊥
    none_some target e = cc
