-- Stretches of a run, and the closed walks of kept edges among them.
use Rattle.std.proofs.Common.{◌≡◌, ℕ, zero, suc, ◌+◌, ◌-◌, ◌<◌, List, [], ◌∷◌, ◌++◌, length, map, All, Contains, sym, ap, refl, subst, arith}
use Rattle.std.proofs.lemmas.List.Elements.{All-cons, All-nil, All-push}
use Rattle.omega_hoa_automaton.specs.Automaton.{Description}
use Rattle.omega_lang_runs.specs.Lasso.{IsStart, IsStep, Leads, marks_at}
use Rattle.omega_lang_runs.proofs.Leads.{leads_on}
use Rattle.omega_lang_runs.proofs.runs.Segments.{segment}
use Rattle.omega_lang_runs.proofs.runs.Steps.{one_source}
use Rattle.omega_synth_controllers.specs.Controllers.{IsKeptCycle, IsMet}

-- a start is met
pub met_first : (a : Description) (kept : List ℕ) (state : ℕ) → IsStart a state → IsMet a kept state
met_first a kept state begins = record { start = state; begins = begins; numbers = []; all_kept = All-nil (Contains kept); leads = refl }

-- where a kept edge leads from a state that is met is met
pub met_next : (a : Description) (kept : List ℕ) (state number next : ℕ) → IsMet a kept state → Contains kept number → IsStep a state number next → IsMet a kept next
met_next a kept state number next met is_kept step = record {
  start = met.start;
  begins = met.begins;
  numbers = met.numbers ++ number ∷ [];
  all_kept = All-push (Contains kept) met.numbers number met.all_kept is_kept;
  leads = leads_on a met.start met.numbers state (number ∷ []) next met.leads (next, step, refl);
}

-- `n` edges of a run from an index on
abbrev pub stretch : (ℕ → ℕ) → ℕ → ℕ → List ℕ
stretch edges i zero = []
stretch edges i (suc n) = edges i ∷ stretch edges (suc i) n

stretch_longer : (edges : ℕ → ℕ) (i n : ℕ) → 0 < n → 0 < length (stretch edges i n)
stretch_longer edges i zero some = some
stretch_longer edges i (suc n) some = omega arith

stretch_all : (P : ℕ → Type 0) (edges : ℕ → ℕ) → ((i : ℕ) → P (edges i)) → (i n : ℕ) → All P (stretch edges i n)
stretch_all P edges each i zero = All-nil P
stretch_all P edges each i (suc n) = All-cons P (edges i) (stretch edges (suc i) n) (each i) (stretch_all P edges each (suc i) n)

-- their marks are a segment of the run's marks
pub stretch_marks : (a : Description) (edges : ℕ → ℕ) (i n : ℕ) → map (marks_at a) (stretch edges i n) ≡ segment (λ k. marks_at a (edges k)) i n
stretch_marks a edges i zero = refl
stretch_marks a edges i (suc n) = ap (λ list. marks_at a (edges i) ∷ list) (stretch_marks a edges (suc i) n)

module _ (a : Description) (states edges : ℕ → ℕ) (steps : (i : ℕ) → IsStep a (states i) (edges i) (states (suc i))) where
  -- the edges of a stretch lead from state to state
  stretch_leads : (i n k : ℕ) → i + n ≡ k → Leads a (states i) (stretch edges i n) (states k)
  stretch_leads i zero k sum = let e : i ≡ k = omega arith in ap states e
  stretch_leads i (suc n) k sum = (states (suc i), steps i, stretch_leads (suc i) n k (omega arith))

  module _ (kept : List ℕ) (all_kept : (i : ℕ) → Contains kept (edges i)) where
    -- each state of a run of kept edges from a start is met
    pub each_met : IsStart a (states 0) → (i : ℕ) → IsMet a kept (states i)
    each_met begins zero = met_first a kept (states 0) begins
    each_met begins (suc i) = met_next a kept (states i) (edges i) (states (suc i)) (each_met begins i) (all_kept i) (steps i)

    -- between two passes of an edge the run makes a closed walk
    pub cycle_between : (i k : ℕ) → IsMet a kept (states i) → i < k → edges i ≡ edges k → IsKeptCycle a kept (states i) (stretch edges i (k - i))
    cycle_between i k met later same =
        let sum : i + (k - i) ≡ k = omega arith in
        let back : states k ≡ states i = sym (one_source a (states i) (states k) (edges i) (edges k) (states (suc i)) (states (suc k)) same (steps i) (steps k)) in
        record {
          met = met;
          all_kept = stretch_all (Contains kept) edges all_kept i (k - i);
          leads = subst (λ s. Leads a (states i) (stretch edges i (k - i)) s) back (stretch_leads i (k - i) k sum);
          longer = stretch_longer edges i (k - i) (omega arith);
        }
