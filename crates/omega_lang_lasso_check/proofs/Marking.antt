-- Runs of marks in rows, and which formulas then hold of the rows.
use Rattle.std.proofs.Common.{◌≡◌, ℕ, suc, ◌+◌, ◌<◌, ◌⊎◌, inl, inr, Bool, true, false, not, ◌||◌, cond, eqb, List, [], ◌∷◌, ◌++◌, length, take, get_or, map, Option, Some, None, refl, sym, ap, subst, ◌∙◌, arith, append_assoc}
use Rattle.std.specs.List.{list_any, prefix_len}
use Rattle.std.specs.Prelude.{option_map}
use Rattle.std.specs.Option.{is_some, unwrap_or}
use Rattle.std.proofs.lemmas.Bool.{cases_Bool, cases_eq, eq-eqb, ne_eqb, eqb-true, false≢true, or_right}
use Rattle.std.proofs.lemmas.List.{map_more, take_more}
use Rattle.omega_hoa_acceptance.specs.Judging.{holds_by_atoms}
use Rattle.omega_hoa_acceptance.specs.Acceptance.{AccTree, accepts, conjunction, constant, disjunction, fin, holds, inf, occurs}
use Rattle.omega_hoa_automaton.specs.Automaton.{BodyEdge, Description, edge_at}
use Rattle.omega_lang_runs.specs.Lasso.{marks_at, marks_of}
use Rattle.omega_lang_lasso_check.specs.private.Runs.{AreRuns, GoesOn, holds_by, longer_run, occurs_by, run_in}

module _ {X : Type 0} (p : X → Bool) where
  -- one more item at the end
  pub any_push : (xs : List X) (x : X) → list_any p (xs ++ x ∷ []) ≡ (list_any p xs || p x)
  any_push [] x = go (p x)
    where
      go : (b : Bool) → (b || false) ≡ (false || b)
      go true = refl
      go false = refl
  any_push (y ∷ ys) x = ap (λ b. p y || b) (any_push ys x) ∙ go (p y) (list_any p ys) (p x)
    where
      go : (b c d : Bool) → (b || (c || d)) ≡ ((b || c) || d)
      go true c d = refl
      go false c d = refl

  front_yes : (x : X) (xs : List X) → p x ≡ true → prefix_len p (x ∷ xs) ≡ 1 + prefix_len p xs
  front_yes x xs is = ap (λ b. cond b (1 + prefix_len p xs) 0) is

  front_no : (x : X) (xs : List X) → p x ≡ false → prefix_len p (x ∷ xs) ≡ 0
  front_no x xs is = ap (λ b. cond b (1 + prefix_len p xs) 0) is

  pub prefix_full : (xs : List X) (x : X) → prefix_len p xs ≡ length xs → prefix_len p (xs ++ x ∷ []) ≡ length xs + cond (p x) 1 0
  prefix_full [] x full = go (p x)
    where
      go : (b : Bool) → cond b (1 + 0) 0 ≡ 0 + cond b 1 0
      go true = refl
      go false = refl
  prefix_full (y ∷ ys) x full = go (cases_Bool (p y)) (prefix_full ys x)
    where
      go : ((p y ≡ true) ⊎ (p y ≡ false)) → (prefix_len p ys ≡ length ys → prefix_len p (ys ++ x ∷ []) ≡ length ys + cond (p x) 1 0)
          → prefix_len p (y ∷ (ys ++ x ∷ [])) ≡ suc (length ys) + cond (p x) 1 0
      go (inl passes) rest =
          let all = rest (omega (arith, full, front_yes y ys passes)) in
          omega (arith, front_yes y (ys ++ x ∷ []) passes, all)
      go (inr fails) rest = absurd (omega (arith, full, front_no y ys fails))

  pub prefix_short : (xs : List X) (x : X) → (prefix_len p xs ≡ length xs → ⊥) → prefix_len p (xs ++ x ∷ []) ≡ prefix_len p xs
  prefix_short [] x short = absurd (short refl)
  prefix_short (y ∷ ys) x short = go (cases_Bool (p y)) (prefix_short ys x)
    where
      go : ((p y ≡ true) ⊎ (p y ≡ false)) → ((prefix_len p ys ≡ length ys → ⊥) → prefix_len p (ys ++ x ∷ []) ≡ prefix_len p ys)
          → prefix_len p (y ∷ (ys ++ x ∷ [])) ≡ prefix_len p (y ∷ ys)
      go (inl passes) rest =
          let all = rest (λ full. short (omega (arith, front_yes y ys passes, full))) in
          front_yes y (ys ++ x ∷ []) passes ∙ ap (λ n. 1 + n) all ∙ sym (front_yes y ys passes)
      go (inr fails) rest = front_no y (ys ++ x ∷ []) fails ∙ sym (front_no y ys fails)

  -- none passes
  pub prefix_none : (xs : List X) → list_any p xs ≡ false → prefix_len p xs ≡ 0
  prefix_none [] none = refl
  prefix_none (x ∷ xs) none = go (p x) none
    where
      go : (b : Bool) → (b || list_any p xs) ≡ false → cond b (1 + prefix_len p xs) 0 ≡ 0
      go true is = absurd (false≢true (sym is))
      go false is = refl

  -- either all pass, or some does not
  pub all_or_some : (xs : List X) → ((prefix_len p xs ≡ length xs) × (list_any (λ x. not (p x)) xs ≡ false))
      ⊎ ((prefix_len p xs < length xs) × (list_any (λ x. not (p x)) xs ≡ true))
  all_or_some [] = inl (refl, refl)
  all_or_some (x ∷ xs) = go (cases_Bool (p x)) (all_or_some xs)
    where
      go : ((p x ≡ true) ⊎ (p x ≡ false))
          → (((prefix_len p xs ≡ length xs) × (list_any (λ x. not (p x)) xs ≡ false)) ⊎ ((prefix_len p xs < length xs) × (list_any (λ x. not (p x)) xs ≡ true)))
          → ((prefix_len p (x ∷ xs) ≡ suc (length xs)) × ((not (p x) || list_any (λ x. not (p x)) xs) ≡ false))
          ⊎ ((prefix_len p (x ∷ xs) < suc (length xs)) × ((not (p x) || list_any (λ x. not (p x)) xs) ≡ true))
      go (inl passes) (inl (all, none)) = inl (omega (arith, front_yes x xs passes, all), rw passes none)
      go (inl passes) (inr (less, some)) = inr (omega (arith, front_yes x xs passes, less), rw passes some)
      go (inr fails) rest = inr (omega (arith, front_no x xs fails), ap (λ b. not b || list_any (λ x. not (p x)) xs) fails)

-- a row that has a mark or not as another has
module _ (mark : ℕ) (r s : List ℕ) (same : holds mark r ≡ holds mark s) where
  any_same : (rows : List (List ℕ)) → list_any (holds mark) (rows ++ r ∷ []) ≡ list_any (holds mark) (rows ++ s ∷ [])
  any_same [] = ap (λ b. b || false) same
  any_same (row ∷ rows) = ap (λ b. holds mark row || b) (any_same rows)

  prefix_same : (rows : List (List ℕ)) → prefix_len (holds mark) (rows ++ r ∷ []) ≡ prefix_len (holds mark) (rows ++ s ∷ [])
  prefix_same [] = ap (λ b. cond b (1 + 0) 0) same
  prefix_same (row ∷ rows) = ap (λ n. cond (holds mark row) (1 + n) 0) (prefix_same rows)

  pub run_same : (rows : List (List ℕ)) → run_in (rows ++ r ∷ []) mark ≡ run_in (rows ++ s ∷ []) mark
  run_same rows =
      ap (λ b. cond b (Some (prefix_len (holds mark) (rows ++ r ∷ []))) None) (any_same rows)
      ∙ ap (λ (n : ℕ). cond (list_any (holds mark) (rows ++ s ∷ [])) (Some n) None) (prefix_same rows)

-- a mark in no row has no run
pub run_or_none : (rows : List (List ℕ)) (mark : ℕ) → unwrap_or (run_in rows mark) 0 ≡ prefix_len (holds mark) rows
run_or_none rows mark = go (cases_Bool (list_any (holds mark) rows))
  where
    go : ((list_any (holds mark) rows ≡ true) ⊎ (list_any (holds mark) rows ≡ false)) → unwrap_or (run_in rows mark) 0 ≡ prefix_len (holds mark) rows
    go (inl passes) = ap (λ b. unwrap_or (cond b (Some (prefix_len (holds mark) rows)) None) 0) passes
    go (inr fails) =
        ap (λ b. unwrap_or (cond b (Some (prefix_len (holds mark) rows)) None) 0) fails ∙ sym (prefix_none (holds mark) rows fails)

-- a mark is put into the last row
pub run_longer : (rows : List (List ℕ)) (r s : List ℕ) (mark : ℕ) → holds mark s ≡ true
    → prefix_len (holds mark) (rows ++ s ∷ []) ≡ longer_run (length rows) (prefix_len (holds mark) (rows ++ r ∷ []))
run_longer rows r s mark has = go (cases_eq (prefix_len (holds mark) rows) (length rows))
  where
    at_length : (b : Bool) (n : ℕ) → longer_run n (n + cond b 1 0) ≡ n + 1
    at_length true n = ap (λ t. cond t (n + 1) (n + 1)) (ne_eqb (n + 1) n (λ same. omega arith))
    at_length false n = ap (λ t. cond t (n + 1) (n + 0)) (eq-eqb (n + 0) n (omega arith))

    go : ((prefix_len (holds mark) rows ≡ length rows) ⊎ (prefix_len (holds mark) rows ≡ length rows → ⊥))
        → prefix_len (holds mark) (rows ++ s ∷ []) ≡ longer_run (length rows) (prefix_len (holds mark) (rows ++ r ∷ []))
    go (inl full) =
        prefix_full (holds mark) rows s full ∙ ap (λ b. length rows + cond b 1 0) has
        ∙ sym (ap (longer_run (length rows)) (prefix_full (holds mark) rows r full) ∙ at_length (holds mark r) (length rows))
    go (inr short) =
        prefix_short (holds mark) rows s short
        ∙ sym (ap (longer_run (length rows)) (prefix_short (holds mark) rows r short)
        ∙ ap (λ t. cond t (length rows + 1) (prefix_len (holds mark) rows)) (ne_eqb (prefix_len (holds mark) rows) (length rows) short))

-- an empty row changes nothing
pub runs_begun : (rows : List (List ℕ)) (look : ℕ → Option ℕ) → AreRuns rows look → AreRuns (rows ++ [] ∷ []) look
runs_begun rows look are mark = are mark ∙ sym (same (cases_eq (prefix_len (holds mark) rows) (length rows)))
  where
    any_is : list_any (holds mark) (rows ++ [] ∷ []) ≡ list_any (holds mark) rows
    any_is = any_push (holds mark) rows [] ∙ go (list_any (holds mark) rows)
      where
        go : (b : Bool) → (b || false) ≡ b
        go true = refl
        go false = refl

    same : ((prefix_len (holds mark) rows ≡ length rows) ⊎ (prefix_len (holds mark) rows ≡ length rows → ⊥)) → run_in (rows ++ [] ∷ []) mark ≡ run_in rows mark
    same (inl full) =
        ap (λ b. cond b (Some (prefix_len (holds mark) (rows ++ [] ∷ []))) None) any_is
        ∙ ap (λ (n : ℕ). cond (list_any (holds mark) rows) (Some n) None) (prefix_full (holds mark) rows [] full ∙ omega arith)
    same (inr short) =
        ap (λ b. cond b (Some (prefix_len (holds mark) (rows ++ [] ∷ []))) None) any_is
        ∙ ap (λ (n : ℕ). cond (list_any (holds mark) rows) (Some n) None) (prefix_short (holds mark) rows [] short)

-- one mark more in the last row
pub runs_go_on : (rows : List (List ℕ)) (begun : List ℕ) (mark : ℕ) (old new : ℕ → Option ℕ) → AreRuns (rows ++ begun ∷ []) old
    → GoesOn (length rows) mark old new → AreRuns (rows ++ (begun ++ mark ∷ []) ∷ []) new
runs_go_on rows begun mark old new are goes other = go (cases_Bool (eqb mark other))
  where
    pushed : list_any (λ m. eqb m other) (begun ++ mark ∷ []) ≡ (holds other begun || eqb mark other)
    pushed = any_push (λ m. eqb m other) begun mark

    or_false : (b : Bool) → (b || false) ≡ b
    or_false true = refl
    or_false false = refl

    go : ((eqb mark other ≡ true) ⊎ (eqb mark other ≡ false)) → new other ≡ run_in (rows ++ (begun ++ mark ∷ []) ∷ []) other
    go (inl same) =
        let is : mark ≡ other = eqb-true mark other same in
        let has : holds other (begun ++ mark ∷ []) ≡ true = pushed ∙ or_right (holds other begun) (eqb mark other) same in
        let any : list_any (holds other) (rows ++ (begun ++ mark ∷ []) ∷ []) ≡ true =
        any_push (holds other) rows (begun ++ mark ∷ []) ∙ or_right (list_any (holds other) rows) (holds other (begun ++ mark ∷ [])) has in
        ap new (sym is) ∙ goes.here
        ∙ ap (λ (m : ℕ). Some (longer_run (length rows) (unwrap_or (old m) 0))) is
        ∙ ap (λ (found : Option ℕ). Some (longer_run (length rows) (unwrap_or found 0))) (are other)
        ∙ ap (λ (n : ℕ). Some (longer_run (length rows) n)) (run_or_none (rows ++ begun ∷ []) other)
        ∙ ap (λ (n : ℕ). Some n) (sym (run_longer rows begun (begun ++ mark ∷ []) other has))
        ∙ sym (ap (λ b. cond b (Some (prefix_len (holds other) (rows ++ (begun ++ mark ∷ []) ∷ []))) None) any)
    go (inr apart) =
        let has : holds other begun ≡ holds other (begun ++ mark ∷ []) = sym (pushed ∙ ap (λ b. holds other begun || b) apart ∙ or_false (holds other begun)) in
        goes.others other apart ∙ are other ∙ run_same other begun (begun ++ mark ∷ []) has rows

-- the same, of a list of marks
pub runs_taken : (rows : List (List ℕ)) (begun marks : List ℕ) (index mark at : ℕ) (old new : ℕ → Option ℕ) → length rows ≡ at → index < length marks
    → mark ≡ get_or marks index 0 → AreRuns (rows ++ (begun ++ take index marks) ∷ []) old → GoesOn at mark old new
    → AreRuns (rows ++ (begun ++ take (index + 1) marks) ∷ []) new
runs_taken rows begun marks index mark at old new counted below is are goes =
    let more : (begun ++ take index marks) ++ mark ∷ [] ≡ begun ++ take (index + 1) marks =
    append_assoc begun (take index marks) (mark ∷ []) ∙ ap (λ list. begun ++ list) (ap (λ (m : ℕ). take index marks ++ m ∷ []) is ∙ sym (take_more marks index 0 below)) in
    subst (λ row. AreRuns (rows ++ row ∷ []) new) more
    (runs_go_on rows (begun ++ take index marks) mark old new are (subst (λ n. GoesOn n mark old new) (sym counted) goes))

-- which formulas hold of rows
module _ (rows : List (List ℕ)) (look : ℕ → Option ℕ) (are : AreRuns rows look) where
  occurs_are : (negated : Bool) (set : ℕ) → occurs_by look (length rows) negated set ≡ occurs rows negated set
  occurs_are false set = ap is_some (are set) ∙ go (list_any (holds set) rows)
    where
      go : (b : Bool) → is_some (cond b (Some (prefix_len (holds set) rows)) None) ≡ b
      go true = refl
      go false = refl
  occurs_are true set =
      ap (λ (found : Option ℕ). not (eqb (unwrap_or found 0) (length rows))) (are set)
      ∙ ap (λ (n : ℕ). not (eqb n (length rows))) (run_or_none rows set) ∙ go (all_or_some (holds set) rows)
    where
      go : (((prefix_len (holds set) rows ≡ length rows) × (list_any (λ row. not (holds set row)) rows ≡ false))
          ⊎ ((prefix_len (holds set) rows < length rows) × (list_any (λ row. not (holds set row)) rows ≡ true)))
          → not (eqb (prefix_len (holds set) rows) (length rows)) ≡ list_any (λ row. not (holds set row)) rows
      go (inl (all, none)) = ap not (eq-eqb (prefix_len (holds set) rows) (length rows) all) ∙ sym none
      go (inr (less, some)) = ap not (ne_eqb (prefix_len (holds set) rows) (length rows) (λ same. omega arith)) ∙ sym some

  pub holds_are : (tree : AccTree) → holds_by look (length rows) tree ≡ accepts rows tree
  holds_are (constant value) = refl
  holds_are (inf negated set) = occurs_are negated set
  holds_are (fin negated set) = ap not (occurs_are negated set)
  holds_are (conjunction left right) = let l = holds_are left in let r = holds_are right in cc
  holds_are (disjunction left right) = let l = holds_are left in let r = holds_are right in cc

-- what holds by its atoms holds by the runs
pub holds_by_runs : (look : ℕ → Option ℕ) (rows : ℕ) (tree : AccTree)
    → holds_by_atoms (occurs_by look rows) (λ negated set. not (occurs_by look rows negated set)) tree ≡ holds_by look rows tree
holds_by_runs look rows (constant value) = refl
holds_by_runs look rows (inf negated set) = refl
holds_by_runs look rows (fin negated set) = refl
holds_by_runs look rows (conjunction left right) =
    let one = holds_by_runs look rows left in let other = holds_by_runs look rows right in cc
holds_by_runs look rows (disjunction left right) =
    let one = holds_by_runs look rows left in let other = holds_by_runs look rows right in cc

-- the rows of a cycle, one more
pub rows_more : (a : Description) (cycle : List ℕ) (at : ℕ) (edge : BodyEdge) → at < length cycle → edge_at a (get_or cycle at 0) ≡ Some edge
    → map (marks_at a) (take at cycle) ++ marks_of edge ∷ [] ≡ map (marks_at a) (take (at + 1) cycle)
rows_more a cycle at edge below is =
    ap (λ (row : List ℕ). map (marks_at a) (take at cycle) ++ row ∷ []) (sym (ap (λ (found : Option BodyEdge). unwrap_or (option_map marks_of found) []) is))
    ∙ sym (map_more (marks_at a) cycle at 0 below)
