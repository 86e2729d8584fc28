-- the flags of the turned graph
use Rattle.std.proofs.Common.{ℕ, List, ap, subst, ◌∙◌}
use Rattle.std.proofs.lemmas.Result.{IfOk-weaker}
use Rattle.omega_graph.specs.Graph.{Shape}
use Rattle.omega_graph.specs.Reaching.{TellReached}
use Rattle.omega_lang_trim.specs.private.Placed.{reversed, shape_of}
use Rattle.omega_lang_trim.proofs.live.live_states.Goals as goal

pub returns-clause-live : goal.returns-clause-live
returns-clause-live c =
    IfOk-weaker c.reached_flags.result _ _
    (λ flags told. record {
      goals = c.in_ok-goals.goals.items;
      are = c.in_ok-goals.ensures.goals.are;
      tell = subst (λ (goals : List ℕ). TellReached (reversed (shape_of c.args.automaton.now)) c.args.edges.now goals flags.items) c.as_slice.ensures.value
          (subst (λ (shape : Shape). TellReached shape c.args.edges.now c.as_slice.result.now flags.items)
          (c.in_ok-back.ensures.graph ∙ ap reversed c.requires.graph) told);
    })
    c.reached_flags.ensures.reached
