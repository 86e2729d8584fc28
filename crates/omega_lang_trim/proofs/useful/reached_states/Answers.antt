-- the sources are those of the automaton
use Rattle.std.proofs.Common.{ℕ, List, sym, subst, ◌∙◌}
use Rattle.std.proofs.lemmas.Result.{IfOk-weaker}
use Rattle.omega_graph.specs.Graph.{AreStates, Shape}
use Rattle.omega_graph.specs.Reaching.{TellReached}
use Rattle.omega_lang_trim.specs.private.Placed.{shape_of}
use Rattle.omega_lang_trim.proofs.Traced.{sources_inside}
use Rattle.omega_lang_trim.proofs.useful.reached_states.Goals as goal

pub reached_flags-requires-clause-sources : goal.reached_flags-requires-clause-sources
reached_flags-requires-clause-sources c =
    subst (λ (shape : Shape). AreStates shape c.as_slice.result.now) (sym c.requires.graph)
    (subst (AreStates (shape_of c.args.automaton.now)) (sym (c.as_slice.ensures.value ∙ c.in_ok-sources.ensures.sources)) (sources_inside c.args.automaton.now))

pub returns-clause-reached : goal.returns-clause-reached
returns-clause-reached c =
    IfOk-weaker c.reached_flags.result _ _
    (λ flags told. subst (λ (sources : List ℕ). TellReached (shape_of c.args.automaton.now) c.args.edges.now sources flags.items) (c.as_slice.ensures.value ∙ c.in_ok-sources.ensures.sources)
    (subst (λ (shape : Shape). TellReached shape c.args.edges.now c.as_slice.result.now flags.items) c.requires.graph told))
    c.reached_flags.ensures.reached
