-- Lifts of one place in a row.
use Rattle.std.proofs.Common.{inl, inr, ◌≡◌, ℕ, ◌+◌, List, arith, refl, ap, ◌∙◌, replicate, subst}
use Rattle.std.proofs.lemmas.Bool.{cases_lt}
use Rattle.std.proofs.lemmas.List.{replicate-append-replicate}
use Rattle.omega_game_values.specs.declared.player.Player.{Player}
use Rattle.omega_game_values.specs.Game.{Node, HasEdge}
use Rattle.omega_lift_laws.specs.Run.{IsLiftingRun}
use Rattle.omega_lift_laws.specs.Laws.{AllowancesAreUnique, RunsKeepTables}
use Rattle.omega_measure.specs.Table.{Content, Raises}
use Rattle.omega_lift_schedules.specs.Schedule.{Pending, with_taken_again}
use Rattle.omega_solve.specs.private.solving.Repeating.{LiftsAgain}
use Rattle.omega_solve.specs.private.solving.Successor.{IsDueTowards, IsTableOf}
use Rattle.omega_solve.proofs.lifting.Lifting.{run_append, run_raised, table_raised}

-- no lift
pub again_none : (nodes : List Node) (player : Player) (v : ℕ) (content : Content) (before after : Pending)
    → IsTableOf nodes player content → after ≡ before → LiftsAgain nodes player v 0 content content before after
again_none nodes player v content before after table same = record {
  lifted = refl;
  table = table;
  looped = λ some. absurd (omega arith);
  taken = omega (arith, ap (λ (p : Pending). p.taken) same);
  flags = ap (λ (p : Pending). p.flags) same;
}

-- one lift
pub again_once : (nodes : List Node) (player : Player) (v w : ℕ) (old new : Content) (before after : Pending)
    → AllowancesAreUnique → RunsKeepTables → IsTableOf nodes player old → HasEdge nodes v v
    → IsDueTowards nodes player old.measures v w → Raises old v w new → after ≡ with_taken_again before
    → LiftsAgain nodes player v 1 old new before after
again_once nodes player v w old new before after unique keep table edge due raises same = record {
  lifted = run_raised nodes player old new new v w 0 unique table due raises refl;
  table = table_raised nodes player old new v w unique keep table due raises;
  looped = λ some. edge;
  taken = ap (λ (p : Pending). p.taken) same;
  flags = ap (λ (p : Pending). p.flags) same;
}

-- some lifts, and more of them
pub again_more : (nodes : List Node) (player : Player) (v count more : ℕ) (old content new : Content) (before between after : Pending)
    → LiftsAgain nodes player v count old content before between → LiftsAgain nodes player v more content new between after
    → LiftsAgain nodes player v (count + more) old new before after
again_more nodes player v count more old content new before between after one other = record {
  lifted = subst (λ (places : List ℕ). IsLiftingRun nodes player old.measures places new.measures) (replicate-append-replicate count more v)
      (run_append nodes player old.measures content.measures new.measures (replicate count v) (replicate more v) one.lifted other.lifted);
  table = other.table;
  looped = λ some. elim (cases_lt 0 count) [
    | inl early ↦ one.looped early
    | inr none ↦ other.looped (omega arith)
  ];
  taken = omega (arith, one.taken, other.taken);
  flags = other.flags ∙ one.flags;
}
