-- `leaders_of`: the edges are those of the game, and the leaders of their groups are those of its components.
use Rattle.std.proofs.Common.{◌≡◌, ◌<◌, ℕ, List, All, ap, length, sym, subst, ◌∙◌}
use Rattle.std.specs.List.{range_with_len}
use Rattle.omega_graph.specs.Components.{AreAmong, HoldClosedWalksIn}
use Rattle.omega_answers_game.proofs.Leading.{groups_inside, leaders_from}
use Rattle.omega_answers_game.proofs.Ranges.{range_all}
use Rattle.omega_answers_game.proofs.leaders.leaders_of.Goals as goal

pub components-requires-clause-edges : goal.components-requires-clause-edges
components-requires-clause-edges c =
    let edges : ℕ = length c.in_ok-graph.graph.edges in
    let numbers : c.as_slice.result.now ≡ range_with_len 0 edges =
    c.as_slice.ensures.value ∙ c.in_ok-edges.ensures ∙ ap (range_with_len 0) c.len.ensures.count in
    subst (λ (xs : List ℕ). All (λ k. k < edges) xs) (sym numbers) (range_all edges)

pub lead_all-requires-clause-edges : goal.lead_all-requires-clause-edges
lead_all-requires-clause-edges c =
    let edges : ℕ = length c.in_ok-graph.graph.edges in
    let numbers : c.as_slice.result.now ≡ range_with_len 0 edges =
    c.as_slice.ensures.value ∙ c.in_ok-edges.ensures ∙ ap (range_with_len 0) c.len.ensures.count in
    groups_inside c.in_ok-graph.graph c.in_ok-groups.groups
    (subst (λ (xs : List ℕ). AreAmong xs c.in_ok-groups.groups) numbers c.in_ok-groups.ensures.among)

pub returns-clause-leaders : goal.returns-clause-leaders
returns-clause-leaders c =
    let shape = c.in_ok-graph.graph in
    let groups = c.in_ok-groups.groups in
    let edges : ℕ = length c.in_ok-graph.graph.edges in
    let numbers : c.as_slice.result.now ≡ range_with_len 0 edges =
    c.as_slice.ensures.value ∙ c.in_ok-edges.ensures ∙ ap (range_with_len 0) c.len.ensures.count in
    leaders_from c.args.game.now shape c.keeps_limits.ensures.game c.in_ok-graph.ensures.graph groups c.lead_all.new.leaders.items
    (subst (λ (xs : List ℕ). AreAmong xs groups) numbers c.in_ok-groups.ensures.among)
    c.in_ok-groups.ensures.connected
    (subst (λ (xs : List ℕ). HoldClosedWalksIn shape xs groups) numbers c.in_ok-groups.ensures.closed)
    c.in_ok-groups.ensures.apart c.lead_all.ensures
