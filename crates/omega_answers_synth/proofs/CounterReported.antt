-- How refusals of a specification and a counter-strategy are reported, and which text they are about.
use Rattle.std.proofs.Common.{◌≡◌, inl, inr, List, ℕ, refl, sym, subst}
use Rattle.omega_text.specs.declared.refusal.Refusal.{Refusal}
use Rattle.omega_text.specs.declared.refusal.Refusal.TheVariants.{Automaton, Circuit, Game, Io, Memory, Task, Text}
use Rattle.omega_hoa_automaton.specs.Automaton.{Description}
use Rattle.omega_hoa_edges.specs.Determinism.{IsDeterministic}
use Rattle.omega_synth_check.specs.CounterRefusing.{IsCounterRefusal, IsUndetermined, branches, two_edges, two_starts}
use Rattle.omega_io.specs.Refused.{about}
use Rattle.omega_io.specs.declared.refused.Refused.{Refused}
use Rattle.omega_io.specs.declared.refused.Which.TheVariants.{File}
use Rattle.omega_answers_synth.specs.Counter.{RefusesCounter, not_deterministic, not_judged, not_parted}
use Rattle.omega_answers_synth.specs.Parting.{AreSystemNames, IsPartingRefused}
use Rattle.omega_answers_synth.specs.private.Reported.{counter_reported}

-- no read or write fails where it is judged
no_io : (specification : Description) → IsUndetermined specification Io → ⊥
no_io specification (branches plain is) = cc
no_io specification (two_starts plain start) = start
no_io specification (two_edges plain few unjudged) = unjudged

module _ (specification strategy : Description) where
  -- the items are refused
  pub counter_parting_refused : (reported : Refused) → IsPartingRefused specification strategy reported → RefusesCounter specification strategy reported
  counter_parting_refused reported (inl memory) = inl memory
  counter_parting_refused reported (inr (text, why, is)) = subst (RefusesCounter specification strategy) (sym is) (inr (not_parted text why))

  module _ (names : List (List ℕ)) (system : AreSystemNames specification strategy names) where
    -- the specification is not found to be deterministic
    pub undetermined_refused : (refusal : Refusal) → IsUndetermined specification refusal → (reported : Refused) → reported ≡ about File refusal
        → RefusesCounter specification strategy reported
    undetermined_refused refusal refused reported is = subst (RefusesCounter specification strategy) (sym is) (go refusal refused)
      where
        go : (refusal : Refusal) → IsUndetermined specification refusal → RefusesCounter specification strategy (about File refusal)
        go (Task fault) h = inr (not_deterministic names (Task fault) system h)
        go Memory h = inl refl
        go (Text fault) h = inr (not_deterministic names (Text fault) system h)
        go (Game fault) h = inr (not_deterministic names (Game fault) system h)
        go (Circuit fault) h = inr (not_deterministic names (Circuit fault) system h)
        go (Automaton fault) h = inr (not_deterministic names (Automaton fault) system h)
        go Io h = absurd (no_io specification h)

    -- the judge refuses
    pub counter_judge_refused : IsDeterministic specification → (refusal : Refusal) → IsCounterRefusal specification strategy names refusal → (reported : Refused)
        → reported ≡ counter_reported refusal → RefusesCounter specification strategy reported
    counter_judge_refused deterministic refusal refused reported is =
        subst (RefusesCounter specification strategy) (sym is) (inr (not_judged names refusal system deterministic refused))
