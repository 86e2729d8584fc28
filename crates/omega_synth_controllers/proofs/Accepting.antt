-- Runs of kept edges. A formula that such a run satisfies holds of one of its closed walks, so each run of the edges of
-- a controller is accepting, and none of those of a counter-strategy.
use Rattle.std.proofs.Common.{◌≡◌, ℕ, zero, suc, ◌+◌, ◌-◌, ◌<◌, ◌≤◌, inl, inr, true, not, List, Contains, map, max, sym, ap, subst, ◌∙◌, arith, add-one, le_refl, true≢false}
use Rattle.std.proofs.lemmas.Bool.{cases_lt}
use Rattle.std.proofs.lemmas.Option.{slice_get_within}
use Rattle.omega_hoa_acceptance.specs.Acceptance.{AccTree, accepts}
use Rattle.omega_hoa_automaton.specs.Automaton.{Description, edge_count, edges_of}
use Rattle.omega_lang_runs.specs.Lasso.{IsStep, marks_at}
use Rattle.omega_lang_runs.specs.Runs.{IsRun, Satisfies}
use Rattle.omega_lang_runs.proofs.Repeats.{Repeats, repeats}
use Rattle.omega_lang_runs.proofs.runs.Segments.{enough, segment_accepts, settled}
use Rattle.omega_hoa_acceptance.specs.Dual.{dual}
use Rattle.omega_synth_controllers.specs.Controllers.{IsController, IsKeptCycle}
use Rattle.omega_synth_controllers.specs.Laws.{KeptRunsAreAccepting}
use Rattle.omega_synth_controllers.proofs.Duals.{dual_accepts, satisfies_one}
use Rattle.omega_synth_controllers.proofs.Stretches.{cycle_between, each_met, stretch, stretch_marks}

module _ (marks : ℕ → List ℕ) (f : AccTree) (holds : Satisfies marks f) where
  -- the indices at which a run is cut: each segment has all that comes for ever, after all that at last comes never
  abbrev cut : ℕ → ℕ
  cut zero = settled marks f holds
  cut (suc k) = max (suc (cut k)) (enough marks f holds (cut k))

  cut_late : (k : ℕ) → settled marks f holds ≤ cut k
  cut_late zero = omega arith
  cut_late (suc k) = omega (arith, cut_late k)

  cut_rises : (q p : ℕ) → p ≤ q → cut p ≤ cut q
  cut_rises zero p least = let e : p ≡ 0 = omega arith in subst (λ n. cut n ≤ cut 0) (sym e) (le_refl (cut 0))
  cut_rises (suc q) p least = elim (cases_lt q p) [
    | inl last ↦ let e : p ≡ suc q = omega arith in subst (λ n. cut n ≤ cut (suc q)) (sym e) (le_refl (cut (suc q)))
    | inr before ↦ omega (arith, cut_rises q p before)
  ]

module _ (a : Description) (kept : List ℕ) (states edges : ℕ → ℕ) (run : IsRun a states edges) (all_kept : (i : ℕ) → Contains kept (edges i)) where
  abbrev marks_along : ℕ → List ℕ
  marks_along i = marks_at a (edges i)

  -- the step at an index
  pub step_at : (i : ℕ) → IsStep a (states i) (edges i) (states (suc i))
  step_at i = subst (λ n. IsStep a (states i) (edges i) (states n)) (add-one i) (run.steps i)

  -- a formula holds of a closed walk of kept edges
  pub record Holds (f : AccTree) : Type 0 where
    pub state : ℕ
    pub cycle : List ℕ
    pub is_cycle : IsKeptCycle a kept state cycle
    pub accepted : accepts (map (marks_at a) cycle) f ≡ true

  module _ (f : AccTree) (holds : Satisfies marks_along f) where
    -- the edges at which the run is cut
    abbrev cut_edges : ℕ → ℕ
    cut_edges k = edges (cut marks_along f holds k)

    between : Repeats cut_edges → Holds f
    between same =
        let i : ℕ = cut marks_along f holds same.first in
        let k : ℕ = cut marks_along f holds same.second in
        let far : cut marks_along f holds (suc same.first) ≤ k = cut_rises marks_along f holds same.second (suc same.first) same.later in
        let later : i < k = omega arith in
        let long : enough marks_along f holds i ≤ i + (k - i) = omega arith in
        record {
          state = states i;
          cycle = stretch edges i (k - i);
          is_cycle = cycle_between a states edges step_at kept all_kept i k (each_met a states edges step_at kept all_kept run.begins i) later same.same;
          accepted = ap (λ list. accepts list f) (stretch_marks a edges i (k - i))
              ∙ segment_accepts marks_along f holds i (k - i) (cut_late marks_along f holds same.first) long;
        }

    -- a formula that the run satisfies holds of one of its closed walks
    pub holds_somewhere : Holds f
    holds_somewhere =
        between (repeats cut_edges (edge_count a)
        (λ k. let step = step_at (cut marks_along f holds k) in slice_get_within (edges_of a) (cut_edges k) step.edge step.numbered))

  -- the dual formula is satisfied by no run of the edges of a controller
  pub dual_fails : (controlled : List ℕ) → IsController a controlled kept → Satisfies marks_along (dual a.acceptance) → ⊥
  dual_fails controlled controller holds =
      let found : Holds (dual a.acceptance) = holds_somewhere (dual a.acceptance) holds in
      let marks : List (List ℕ) = map (marks_at a) found.cycle in
      true≢false
      (sym found.accepted ∙ dual_accepts marks a.acceptance ∙ ap not (controller.accepted found.state found.cycle found.is_cycle))

pub kept_runs_are_accepting : KeptRunsAreAccepting
kept_runs_are_accepting decided a controlled kept states edges controller run all_kept =
    elim (satisfies_one decided (λ i. marks_at a (edges i)) a.acceptance) [
      | inl holds ↦ holds
      | inr fails ↦ absurd (dual_fails a kept states edges run all_kept controlled controller fails)
    ]
