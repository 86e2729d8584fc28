-- A search that comes to one state after another.
use Rattle.std.proofs.Common.{◌≡◌, ◌≢◌, ℕ, ◌+◌, ◌<◌, ◌≤◌, ◌⊎◌, inl, inr, Bool, true, false, not, cond, IsTrue, List, [], ◌∷◌, ◌++◌, length, set, get_or, take, replicate, count_by, Contains, refl, sym, ◌∙◌, ap, subst, arith, get_or-set_same, get_or-set_other}
use Rattle.std.proofs.lemmas.Bool.{cases_eq, cases_lt, cases_Bool}
use Rattle.std.proofs.lemmas.List.Elements.{Contains-push_cases}
use Rattle.std.proofs.lemmas.List.{take_more, length-set, length_push, get_or_append_left, get_or_push, get_or_past, get_or-replicate, length-replicate}
use Rattle.std.proofs.lemmas.List.Sums.{sum_by-set}
use Rattle.omega_graph.specs.declared.met.MetState.{MetState}
use Rattle.omega_graph.specs.private.Searching.{Grows, Trace, mark_at, meeting, met_at}

-- the mark that was set
pub mark_set : (marks : List Bool) (p v : ℕ) → p < length marks → p ≡ v → IsTrue (mark_at (set marks p true) v)
mark_set marks p v below e = subst (λ u. IsTrue (mark_at (set marks p true) u)) e (get_or-set_same {A = Bool} marks p true false below)

-- the other marks stay
pub mark_other : (marks : List Bool) (p v : ℕ) → v ≢ p → mark_at (set marks p true) v ≡ mark_at marks v
mark_other marks p v apart = get_or-set_other {A = Bool} marks p v true false apart

-- a mark stays when another is set
pub mark_kept : (marks : List Bool) (p v : ℕ) → p < length marks → IsTrue (mark_at marks v) → IsTrue (mark_at (set marks p true) v)
mark_kept marks p v below marked = go (cases_eq v p)
  where
    go : (v ≡ p) ⊎ (v ≡ p → ⊥) → IsTrue (mark_at (set marks p true) v)
    go (inl e) = mark_set marks p v below (sym e)
    go (inr apart) = mark_other marks p v apart ∙ marked

-- one place fewer is left unmarked
pub one_fewer : (marks : List Bool) (p : ℕ) → p < length marks → mark_at marks p ≡ false → count_by not (set marks p true) + 1 ≡ count_by not marks
one_fewer marks p below unmarked =
    let sums : count_by not (set marks p true) + cond {A = ℕ} (not (mark_at marks p)) 1 0 ≡ count_by not marks + 0 =
    sum_by-set {X = Bool} (λ b. cond (not b) 1 0) marks p true false below in
    let one : cond {A = ℕ} (not (mark_at marks p)) 1 0 ≡ 1 = ap {B = ℕ} (λ b. cond (not b) 1 0) unmarked in
    omega arith

-- if no mark is set, no state is marked
pub unmarked : (n v : ℕ) → mark_at (replicate n false) v ≡ false
unmarked n v = go (cases_lt v n)
  where
    go : (v < n) ⊎ (n ≤ v) → mark_at (replicate n false) v ≡ false
    go (inl below) = get_or-replicate n v false false below
    go (inr past) = get_or_past (replicate n false) v false (omega (arith, length-replicate n false))

-- a state that was met stays
pub meeting_old : (trace : Trace) (met : MetState) → mark_at trace.marks met.state ≡ true → meeting trace met ≡ trace
unfolding meeting
meeting_old trace met old = rw old refl

-- one that was not is met
pub meeting_new : (trace : Trace) (met : MetState) → mark_at trace.marks met.state ≡ false
    → meeting trace met ≡ record { marks = set trace.marks met.state true; met = trace.met ++ met ∷ [] }
unfolding meeting
meeting_new trace met new = rw new refl

-- it is marked then
pub meeting_marks : (trace : Trace) (met : MetState) → met.state < length trace.marks → IsTrue (mark_at (meeting trace met).marks met.state)
meeting_marks trace met below = go (cases_Bool (mark_at trace.marks met.state))
  where
    go : (mark_at trace.marks met.state ≡ true) ⊎ (mark_at trace.marks met.state ≡ false) → IsTrue (mark_at (meeting trace met).marks met.state)
    go (inl old) = subst (λ (t : Trace). IsTrue (mark_at t.marks met.state)) (sym (meeting_old trace met old)) old
    go (inr new) = subst (λ (t : Trace). IsTrue (mark_at t.marks met.state)) (sym (meeting_new trace met new)) (mark_set trace.marks met.state met.state below refl)

-- and other marks stay
pub meeting_keeps : (trace : Trace) (met : MetState) (v : ℕ) → met.state < length trace.marks → IsTrue (mark_at trace.marks v) → IsTrue (mark_at (meeting trace met).marks v)
meeting_keeps trace met v below mark = go (cases_Bool (mark_at trace.marks met.state))
  where
    go : (mark_at trace.marks met.state ≡ true) ⊎ (mark_at trace.marks met.state ≡ false) → IsTrue (mark_at (meeting trace met).marks v)
    go (inl old) = subst (λ (t : Trace). IsTrue (mark_at t.marks v)) (sym (meeting_old trace met old)) mark
    go (inr new) = subst (λ (t : Trace). IsTrue (mark_at t.marks v)) (sym (meeting_new trace met new)) (mark_kept trace.marks met.state v below mark)

module _ (P : MetState → Type 0) where
  -- nothing to come to
  pub grows_none : (trace : Trace) → Grows P trace trace
  grows_none trace = record {
    count = refl;
    kept = λ v mark. mark;
    fresh = λ v mark. inl mark;
    longer = omega arith;
    same = λ i within. refl;
    new = λ i past within. absurd (omega arith);
    left = refl;
  }

module _ (P : MetState → Type 0) (before after : Trace) (met : MetState) (so_far : Grows P before after) (below : met.state < length after.marks) (holds : P met) where
  here : met_at (after.met ++ met ∷ []) (length after.met) ≡ met
  here = get_or_push after.met met (record { state = 0; edge = 0; origin = 0 }) (length after.met) refl

  there : (i : ℕ) → i < length after.met → met_at (after.met ++ met ∷ []) i ≡ met_at after.met i
  there i within = get_or_append_left after.met (met ∷ []) (record { state = 0; edge = 0; origin = 0 }) i within

  count : length (after.met ++ met ∷ []) ≡ length after.met + 1
  count = length_push after.met met

  older : (v : ℕ) → IsTrue (mark_at before.marks v) ⊎ ((i : ℕ) × (i < length after.met) × ((met_at after.met i).state ≡ v))
      → IsTrue (mark_at before.marks v) ⊎ ((i : ℕ) × (i < length (after.met ++ met ∷ [])) × ((met_at (after.met ++ met ∷ []) i).state ≡ v))
  older v (inl mark) = inl mark
  older v (inr at) =
      let within : at.0 < length after.met = at.1 in
      inr (at.0, omega (arith, count), ap (λ (m : MetState). m.state) (there at.0 at.1) ∙ at.2)

  fresh : (v : ℕ) → IsTrue (mark_at (set after.marks met.state true) v) → (v ≡ met.state) ⊎ (v ≡ met.state → ⊥)
      → IsTrue (mark_at before.marks v) ⊎ ((i : ℕ) × (i < length (after.met ++ met ∷ [])) × ((met_at (after.met ++ met ∷ []) i).state ≡ v))
  fresh v mark (inl same) = inr (length after.met, omega (arith, count), ap (λ (m : MetState). m.state) here ∙ sym same)
  fresh v mark (inr apart) = older v (so_far.fresh v (sym (mark_other after.marks met.state v apart) ∙ mark))

  latest : (i : ℕ) → length before.met ≤ i → i < length (after.met ++ met ∷ []) → (i ≡ length after.met) ⊎ (i ≡ length after.met → ⊥) → P (met_at (after.met ++ met ∷ []) i)
  latest i past within (inl same) = subst (λ (k : ℕ). P (met_at (after.met ++ met ∷ []) k)) (sym same) (subst P (sym here) holds)
  latest i past within (inr apart) =
      let inside : i < length after.met = omega (arith, count) in
      subst P (sym (there i inside)) (so_far.new i past inside)

  pushes : mark_at after.marks met.state ≡ false → Grows P before (record { marks = set after.marks met.state true; met = after.met ++ met ∷ [] })
  pushes new = record {
    count = length-set after.marks met.state true ∙ so_far.count;
    kept = λ v mark. mark_kept after.marks met.state v below (so_far.kept v mark);
    fresh = λ v mark. fresh v mark (cases_eq v met.state);
    longer = omega (arith, count, so_far.longer);
    same = λ i within. there i (omega (arith, so_far.longer)) ∙ so_far.same i within;
    new = λ i past within. latest i past within (cases_eq i (length after.met));
    left = omega (arith, one_fewer after.marks met.state below new, count, so_far.left);
  }

  -- one state more
  pub grows_more : Grows P before (meeting after met)
  grows_more = go (cases_Bool (mark_at after.marks met.state))
    where
      go : (mark_at after.marks met.state ≡ true) ⊎ (mark_at after.marks met.state ≡ false) → Grows P before (meeting after met)
      go (inl old) = subst (λ (t : Trace). Grows P before t) (sym (meeting_old after met old)) so_far
      go (inr new) = subst (λ (t : Trace). Grows P before t) (sym (meeting_new after met new)) (pushes new)

-- the sources so far and one more are marked
pub begun_more : (sources : List ℕ) (index : ℕ) (trace : Trace) (met : MetState) → index < length sources → met.state ≡ get_or sources index 0 → met.state < length trace.marks
    → ((v : ℕ) → Contains (take index sources) v → IsTrue (mark_at trace.marks v)) → (v : ℕ) → Contains (take (index + 1) sources) v → IsTrue (mark_at (meeting trace met).marks v)
begun_more sources index trace met within is below so_far v has =
    elim (Contains-push_cases (take index sources) (get_or sources index 0) v (subst (λ (xs : List ℕ). Contains xs v) (take_more sources index 0 within) has)) [
      | inl earlier ↦ meeting_keeps trace met v below (so_far v earlier)
      | inr same ↦ subst (λ (u : ℕ). IsTrue (mark_at (meeting trace met).marks u)) (is ∙ same) (meeting_marks trace met below)
    ]
