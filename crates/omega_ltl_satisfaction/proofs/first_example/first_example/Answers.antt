-- the graph has the numbers of the edges
use Rattle.std.proofs.Common.{ℕ, List, ◌∙◌, ap}
use Rattle.std.proofs.lemmas.Result.{IfOk-weaker}
use Rattle.omega_ltl_satisfaction.specs.private.Meeting.{example_of_firsts}
use Rattle.omega_ltl_satisfaction.proofs.first_example.first_example.Goals as goal

pub returns-in-Ok-clause-example : goal.returns-in-Ok-clause-example
returns-in-Ok-clause-example c =
    IfOk-weaker c.example_along.result _ _
    (λ first is. record {
      graph = c.in-Ok.graph;
      graph_is = c.in-Ok.ensures.graph;
      is = is ∙ ap (λ (firsts : List ℕ). example_of_firsts firsts c.args.example) c.as_slice.ensures.value;
    }) c.example_along.ensures.example
