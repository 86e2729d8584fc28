-- From an accepting run to a lasso, and from a lasso to a run.
use Rattle.std.proofs.Common.{◌≡◌, ℕ, zero, suc, ◌+◌, ◌-◌, ◌<◌, ◌≤◌, true, List, [], ◌∷◌, length, map, max, Some, sym, ap, refl, ◌∙◌, subst, arith, add-one, le_refl, inl, inr}
use Rattle.std.proofs.lemmas.Bool.{cases_lt}
use Rattle.std.proofs.lemmas.Option.{slice_get_within}
use Rattle.omega_hoa_acceptance.specs.Acceptance.{accepts}
use Rattle.omega_hoa_automaton.specs.Automaton.{BodyEdge, Description, edge_at, edge_count, edges_of}
use Rattle.omega_lang_runs.proofs.Repeats.{Repeats, repeats}
use Rattle.omega_lang_runs.specs.Lasso.{IsAcceptingLasso, IsStart, IsStep, Leads, marks_at}
use Rattle.omega_lang_runs.specs.Runs.{AcceptingRunsHaveLassos, IsAcceptingRun, LassosAreAcceptingRuns}
use Rattle.omega_lang_runs.proofs.runs.Forever.{ever, ever_satisfies}
use Rattle.omega_lang_runs.proofs.runs.Segments.{enough, segment, segment_accepts, settled}

-- `n` edges of a run from an index on
abbrev stretch : (ℕ → ℕ) → ℕ → ℕ → List ℕ
stretch edges i zero = []
stretch edges i (suc n) = edges i ∷ stretch edges (suc i) n

-- they lead from state to state
stretch_leads : (a : Description) (states edges : ℕ → ℕ) → ((i : ℕ) → IsStep a (states i) (edges i) (states (suc i)))
    → (i n k : ℕ) → i + n ≡ k → Leads a (states i) (stretch edges i n) (states k)
stretch_leads a states edges steps i zero k sum = let e : i ≡ k = omega arith in ap states e
stretch_leads a states edges steps i (suc n) k sum =
    (states (suc i), steps i, stretch_leads a states edges steps (suc i) n k (omega arith))

-- their marks are a segment of the run's marks
stretch_marks : (a : Description) (edges : ℕ → ℕ) (i n : ℕ)
    → map (marks_at a) (stretch edges i n) ≡ segment (λ k. marks_at a (edges k)) i n
stretch_marks a edges i zero = refl
stretch_marks a edges i (suc n) = ap (λ list. marks_at a (edges i) ∷ list) (stretch_marks a edges (suc i) n)

-- two steps by one edge leave one state
pub one_source : (a : Description) (s t n m u v : ℕ) → n ≡ m → IsStep a s n u → IsStep a t m v → s ≡ t
one_source a s t n m u v same first second =
    let edges_same : first.edge ≡ second.edge = some_same first.edge second.edge (sym first.numbered ∙ ap (edge_at a) same ∙ second.numbered) in
    sym first.leaves ∙ ap (λ edge. edge.source.number) edges_same ∙ second.leaves
  where
    some_same : (x y : BodyEdge) → Some x ≡ Some y → x ≡ y
    some_same x y e = cc

-- a stretch of at least one edge is not empty
stretch_longer : (edges : ℕ → ℕ) (i n : ℕ) → 0 < n → 0 < length (stretch edges i n)
stretch_longer edges i zero some = some
stretch_longer edges i (suc n) some = omega arith

module _ (a : Description) (states edges : ℕ → ℕ) (run : IsAcceptingRun a states edges) where
  abbrev marks : ℕ → List ℕ
  marks i = marks_at a (edges i)

  -- the indices at which the run is cut: each segment has all that comes for ever, after all that at last comes never
  abbrev cut : ℕ → ℕ
  cut zero = settled marks a.acceptance run.accepted
  cut (suc k) = max (suc (cut k)) (enough marks a.acceptance run.accepted (cut k))

  cut_late : (k : ℕ) → settled marks a.acceptance run.accepted ≤ cut k
  cut_late zero = omega arith
  cut_late (suc k) = omega (arith, cut_late k)

  cut_rises : (q p : ℕ) → p ≤ q → cut p ≤ cut q
  cut_rises zero p least = let e : p ≡ 0 = omega arith in let P : ℕ → Type 0 = λ n. cut n ≤ cut 0 in subst P (sym e) (le_refl (cut 0))
  cut_rises (suc q) p least = elim (cases_lt q p) [
    | inl last ↦ let e : p ≡ suc q = omega arith in let P : ℕ → Type 0 = λ n. cut n ≤ cut (suc q) in subst P (sym e) (le_refl (cut (suc q)))
    | inr before ↦ omega (arith, cut_rises q p before)
  ]

  steps : (i : ℕ) → IsStep a (states i) (edges i) (states (suc i))
  steps i = let P : ℕ → Type 0 = λ n. IsStep a (states i) (edges i) (states n) in subst P (add-one i) (run.run.steps i)

  lasso : Repeats (λ k. edges (cut k)) → (stem : List ℕ) × ((cycle : List ℕ) × IsAcceptingLasso a stem cycle)
  lasso same =
      let i : ℕ = cut same.first in
      let k : ℕ = cut same.second in
      let far : cut (suc same.first) ≤ k = cut_rises same.second (suc same.first) same.later in
      let n : ℕ = k - i in
      let sum : i + n ≡ k = omega arith in
      let back : states k ≡ states i = sym (one_source a (states i) (states k) (edges i) (edges k) (states (suc i)) (states (suc k)) same.same (steps i) (steps k)) in
      let P : ℕ → Type 0 = λ s. Leads a (states i) (stretch edges i n) s in (
        stretch edges 0 i,
        (
          stretch edges i n,
          record {
            lasso = record {
              start = states 0;
              loop_state = states i;
              begins = run.run.begins;
              stem_leads = stretch_leads a states edges steps 0 i i (omega arith);
              cycle_leads = subst P back (stretch_leads a states edges steps i n k sum);
              longer = stretch_longer edges i n (omega arith);
            };
            accepted = ap (λ list. accepts list a.acceptance) (stretch_marks a edges i n)
                ∙ segment_accepts marks a.acceptance run.accepted i n (cut_late same.first) (omega arith);
          },
        ),
      )

pub accepting_runs_have_lassos : AcceptingRunsHaveLassos
accepting_runs_have_lassos a states edges plain run =
    lasso a states edges run
    (repeats (λ k. edges (cut a states edges run k)) (edge_count a)
    (λ k. slice_get_within (edges_of a) (edges (cut a states edges run k)) (run.run.steps (cut a states edges run k)).edge (run.run.steps (cut a states edges run k)).numbered))

module _ (a : Description) (loop_state c : ℕ) (cs : List ℕ) (lap : Leads a loop_state (c ∷ cs) loop_state) where
  -- the states on the way along edges to the loop state, and then round the lap for ever
  abbrev visited : (s i : ℕ) (xs : List ℕ) → Leads a s xs loop_state → ℕ
  visited s zero xs leads = s
  visited s (suc i) [] leads = visited lap.0 i cs lap.2
  visited s (suc i) (x ∷ xs) leads = visited leads.0 i xs leads.2

  -- each step is one of the edges
  visited_step : (s i : ℕ) (xs : List ℕ) (leads : Leads a s xs loop_state) → IsStep a (visited s i xs leads) (ever c cs xs i) (visited s (suc i) xs leads)
  visited_step s zero [] leads = let P : ℕ → Type 0 = λ n. IsStep a n c lap.0 in subst P (sym leads) lap.1
  visited_step s zero (x ∷ xs) leads = leads.1
  visited_step s (suc i) [] leads = visited_step lap.0 i cs lap.2
  visited_step s (suc i) (x ∷ xs) leads = visited_step leads.0 i xs leads.2

  run_of : (start : ℕ) (stem : List ℕ) → IsStart a start → Leads a start stem loop_state → accepts (map (marks_at a) (c ∷ cs)) a.acceptance ≡ true
      → (states : ℕ → ℕ) × ((edges : ℕ → ℕ) × IsAcceptingRun a states edges)
  run_of start stem begins leads accepted = (
    λ i. visited start i stem leads,
    (
      ever c cs stem,
      record {
        run = record {
          begins = begins;
          steps = λ i. (let P : ℕ → Type 0 = λ n. IsStep a (visited start i stem leads) (ever c cs stem i) (visited start n stem leads) in
              subst P (sym (add-one i)) (visited_step start i stem leads));
        };
        accepted = ever_satisfies (marks_at a) c cs stem a.acceptance accepted;
      },
    ),
  )

pub lassos_are_accepting_runs : LassosAreAcceptingRuns
lassos_are_accepting_runs a stem [] plain lasso = absurd (omega (arith, lasso.lasso.longer))
lassos_are_accepting_runs a stem (c ∷ cs) plain lasso =
    run_of a lasso.lasso.loop_state c cs lasso.lasso.cycle_leads lasso.lasso.start stem lasso.lasso.begins lasso.lasso.stem_leads lasso.accepted
