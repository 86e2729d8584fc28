-- The states of an accepting run are useful.
use Rattle.std.proofs.Common.{◌≡◌, ℕ, zero, suc, ◌+◌, ◌-◌, ◌≤◌, false, IsTrue, inl, inr, List, [], ◌∷◌, ◌++◌, Contains, refl, sym, ap, subst, ◌∙◌, arith, add-one}
use Rattle.std.specs.List.{list_any}
use Rattle.std.specs.Prelude.{length, nat_lt}
use Rattle.std.proofs.lemmas.Bool.{or_parts}
use Rattle.omega_hoa_acceptance.specs.Acceptance.{AccTree, conjunction, constant, disjunction, fin, inf}
use Rattle.omega_hoa_automaton.specs.Automaton.{Description}
use Rattle.omega_hoa_automaton.specs.Branching.{has_universal_branching, state_branches}
use Rattle.omega_graph.specs.Marks.{meets}
use Rattle.omega_lang_runs.specs.Lasso.{IsAcceptingLasso, IsStep, Leads, marks_at}
use Rattle.omega_lang_runs.specs.Runs.{AcceptingRunsHaveLassos, IsAcceptingRun, Satisfies}
use Rattle.omega_lang_runs.proofs.Leads.{leads_on}
use Rattle.omega_lang_trim.specs.Useful.{IsReached, IsUseful, StartsLasso}

-- the automaton that begins in a state alone
abbrev begun_at : Description → ℕ → Description
begun_at a state = record {
  tool = a.tool;
  name = a.name;
  states = a.states;
  starts = (state ∷ []) ∷ [];
  propositions = a.propositions;
  acc_name = a.acc_name;
  sets = a.sets;
  acceptance = a.acceptance;
  properties = a.properties;
  unknown = a.unknown;
  defined = a.defined;
}

-- marks from an index on satisfy what all satisfy
satisfies_later : (marks : ℕ → List ℕ) (i : ℕ) (f : AccTree) → Satisfies marks f → Satisfies (λ j. marks (i + j)) f
satisfies_later marks i (constant value) is = is
satisfies_later marks i (inf negated set) ever = λ j.
    (let k = ever (i + j) in
    let past : i + j ≤ k.0 = k.1 in
    let e : i + (k.0 - i) ≡ k.0 = omega arith in
    (k.0 - i, omega arith, subst (λ n. IsTrue (meets negated set (marks n))) (sym e) k.2))
satisfies_later marks i (fin negated set) never = (never.0, λ j past. never.1 (i + j) (omega (arith, past)))
satisfies_later marks i (conjunction left right) both = (satisfies_later marks i left both.0, satisfies_later marks i right both.1)
satisfies_later marks i (disjunction left right) (inl one) = inl (satisfies_later marks i left one)
satisfies_later marks i (disjunction left right) (inr other) = inr (satisfies_later marks i right other)

-- marks that are the same satisfy the same
pub satisfies_same : (marks others : ℕ → List ℕ) → ((i : ℕ) → marks i ≡ others i) → (f : AccTree) → Satisfies marks f → Satisfies others f
satisfies_same marks others same (constant value) is = is
satisfies_same marks others same (inf negated set) ever = λ i.
    (let k = ever i in (k.0, k.1, subst (λ (m : List ℕ). IsTrue (meets negated set m)) (same k.0) k.2))
satisfies_same marks others same (fin negated set) never =
    (never.0, λ j past. sym (ap (meets negated set) (same j)) ∙ never.1 j past)
satisfies_same marks others same (conjunction left right) both = (satisfies_same marks others same left both.0, satisfies_same marks others same right both.1)
satisfies_same marks others same (disjunction left right) (inl one) = inl (satisfies_same marks others same left one)
satisfies_same marks others same (disjunction left right) (inr other) = inr (satisfies_same marks others same right other)

module _ (have_lassos : AcceptingRunsHaveLassos) (a : Description) (plain : has_universal_branching a ≡ false) (states edges : ℕ → ℕ) (run : IsAcceptingRun a states edges) where
  step : (i : ℕ) → IsStep a (states i) (edges i) (states (suc i))
  step i = subst (λ n. IsStep a (states i) (edges i) (states n)) (add-one i) (run.run.steps i)

  -- each is reached
  reached : (i : ℕ) → IsReached a (states i)
  reached zero = record { start = states 0; begins = run.run.begins; path = []; leads = refl }
  reached (suc i) =
      let before : IsReached a (states i) = reached i in
      record {
        start = before.start;
        begins = before.begins;
        path = before.path ++ edges i ∷ [];
        leads = leads_on a before.start before.path (states i) (edges i ∷ []) (states (suc i)) before.leads (states (suc i), step i, refl);
      }

  -- and the rest of the run begins there
  module _ (i : ℕ) where
    abbrev begun : Description
    begun = begun_at a (states i)

    begun_step : (from number to : ℕ) → IsStep a from number to → IsStep begun from number to
    begun_step from number to is = record { edge = is.edge; numbered = is.numbered; usable = is.usable; leaves = is.leaves; enters = is.enters }

    old_step : (from number to : ℕ) → IsStep begun from number to → IsStep a from number to
    old_step from number to is = record { edge = is.edge; numbered = is.numbered; usable = is.usable; leaves = is.leaves; enters = is.enters }

    old_leads : (from : ℕ) (walk : List ℕ) (to : ℕ) → Leads begun from walk to → Leads a from walk to
    old_leads from [] to leads = leads
    old_leads from (number ∷ walk) to leads = (leads.0, old_step from number leads.0 leads.1, old_leads leads.0 walk to leads.2)

    begun_plain : has_universal_branching begun ≡ false
    begun_plain = (or_parts (list_any (λ (start : List ℕ). nat_lt 1 (length start)) a.starts) (list_any state_branches a.defined) plain).1

    begun_run : IsAcceptingRun begun (λ j. states (i + j)) (λ j. edges (i + j))
    begun_run = record {
      run = record {
        begins = let e : states (i + 0) ≡ states i = ap states (omega arith) in subst (λ s. Contains ((states i ∷ []) ∷ []) (s ∷ [])) (sym e) (0, omega arith, refl);
        steps = λ j.
            (let e : (i + j) + 1 ≡ i + (j + 1) = omega arith in
            begun_step (states (i + j)) (edges (i + j)) (states (i + (j + 1))) (subst (λ n. IsStep a (states (i + j)) (edges (i + j)) (states n)) e (run.run.steps (i + j))));
      };
      accepted = satisfies_later (λ j. marks_at a (edges j)) i a.acceptance run.accepted;
    }

    alone : (start : ℕ) → Contains ((states i ∷ []) ∷ []) (start ∷ []) → states i ≡ start
    alone start (zero, below, is) = first is
      where
        first : states i ∷ [] ≡ start ∷ [] → states i ≡ start
        first e = cc
    alone start (suc k, below, is) = absurd (omega (arith, below))

    lasso : StartsLasso a (states i)
    lasso =
        let found = have_lassos begun (λ j. states (i + j)) (λ j. edges (i + j)) begun_plain begun_run in
        let is : IsAcceptingLasso begun found.0 found.1.0 = found.1.1 in
        record {
          stem = found.0;
          cycle = found.1.0;
          loop_state = is.lasso.loop_state;
          stem_leads = subst (λ from. Leads a from found.0 is.lasso.loop_state) (sym (alone is.lasso.start is.lasso.begins))
              (old_leads is.lasso.start found.0 is.lasso.loop_state is.lasso.stem_leads);
          cycle_leads = old_leads is.lasso.loop_state found.1.0 is.lasso.loop_state is.lasso.cycle_leads;
          longer = is.lasso.longer;
          accepted = is.accepted;
        }

  pub states_useful : (i : ℕ) → IsUseful a (states i)
  states_useful i = record { reached = reached i; lasso = lasso i }
