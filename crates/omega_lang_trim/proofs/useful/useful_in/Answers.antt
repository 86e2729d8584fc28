-- the states with both flags are the useful ones
use Rattle.std.proofs.Common.{sym, subst}
use Rattle.std.proofs.lemmas.Result.{IfOk-weaker}
use Rattle.omega_graph.specs.Reaching.{TellReached}
use Rattle.omega_lang_trim.specs.private.Placed.{TellLive, shape_of, sources_of}
use Rattle.omega_lang_trim.proofs.UsefulStates.{both_useful}
use Rattle.omega_lang_trim.proofs.useful.useful_in.Goals as goal

pub returns-clause-useful : goal.returns-clause-useful
returns-clause-useful c =
    IfOk-weaker c.with_both.result _ _
    (λ kept both. both_useful c.args.automaton.now c.keeps_limits.ensures c.requires.plain c.args.edges.now c.requires.usable c.as_slice.result.now c.as_slice-2.result.now kept.keys
    (subst (TellReached (shape_of c.args.automaton.now) c.args.edges.now (sources_of c.args.automaton.now)) (sym c.as_slice.ensures.value) c.in_ok-reached.ensures.reached)
    (subst (TellLive c.args.automaton.now c.args.edges.now) (sym c.as_slice-2.ensures.value) c.in_ok-live.ensures.live)
    both)
    c.with_both.ensures.both
