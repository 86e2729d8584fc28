-- `graph_of`: the edges of one place more.
use Rattle.std.proofs.Common.{◌++◌, List, [], ap, sym, ◌∙◌, arith}
use Rattle.std.specs.List.{flat_map, range_with_len}
use Rattle.std.proofs.lemmas.List.{flat_map_more}
use Rattle.omega_graph.specs.declared.edge.Edge.{Edge}
use Rattle.omega_answers_game.specs.private.Table.{edges_from}
use Rattle.omega_answers_game.proofs.Ranges.{range_more}
use Rattle.omega_answers_game.proofs.graph.graph_of.Goals as goal

pub loop-place-preserved : goal.loop-place-preserved
loop-place-preserved c =
    let nodes = c.args.game.now in
    let place = c.loop-place.place in
    record {
      states = c.in_ok-add_edges.ensures.states ∙ c.loop-place.invariant.states;
      edges = c.in_ok-add_edges.ensures.edges
          ∙ ap (λ (edges : List Edge). edges ++ edges_from nodes place) c.loop-place.invariant.edges
          ∙ flat_map_more (edges_from nodes) [] (range_with_len 0 place) place
          ∙ ap (flat_map (edges_from nodes)) (sym (range_more 0 place place (omega arith)));
    }
