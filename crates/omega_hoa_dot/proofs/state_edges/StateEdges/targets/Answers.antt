-- `targets`: an edge more, and the end.
use Rattle.std.proofs.Common.{◌≡◌, ℕ, ◌+◌, ◌≤◌, List, [], ◌∷◌, ◌++◌, length, drop, ap, sym, ◌∙◌, append_assoc, arith}
use Rattle.std.specs.Prelude.{Option}
use Rattle.std.proofs.lemmas.List.{append-nil, drop_all}
use Rattle.omega_hoa_automaton.specs.declared.edge.Edge.{Edge}
use Rattle.omega_hoa_dot.specs.Arrows.{Drawn, shared_target}
use Rattle.omega_hoa_dot.specs.private.layout.Drawing.{drawn_all, drawn_at}
use Rattle.omega_hoa_dot.specs.private.layout.Marking.{role_at}
use Rattle.omega_hoa_dot.specs.private.layout.Sharing.{targets_of}
use Rattle.omega_hoa_dot.proofs.Drawn.{drawn_left, length-drawn}
use Rattle.omega_hoa_dot.proofs.state_edges.StateEdges.targets.Goals as goal

pub returns-clause-targets : goal.returns-clause-targets
returns-clause-targets c =
    let drawn : List Drawn = drawn_all c.args.self.now in
    let edges : List Edge = c.args.self.now.state.now.edges in
    let count : length drawn ≡ length edges =
    length-drawn c.args.self.now.automaton.now.propositions (role_at c.args.self.now.roles.now) c.args.self.now.first c.args.self.now.state.now 0 edges in
    let all : length drawn ≤ c.loop-index.index = omega (arith, count, c.loop-index-test.false, c.len-index-end.ensures) in
    sym (append-nil c.loop-index.targets.items)
    ∙ ap (λ (list : List Drawn). c.loop-index.targets.items ++ targets_of list) (sym (drop_all c.loop-index.index drawn all))
    ∙ c.loop-index.invariant

pub loop-index-preserved : goal.loop-index-preserved
loop-index-preserved c =
    let index : ℕ = c.loop-index.index in
    let drawn : List Drawn = drawn_all c.args.self.now in
    let one : Drawn = drawn_at c.args.self.now index c.edge-edge.result in
    let before : List (Option ℕ) = c.loop-index.targets.items in
    let rest : List (Option ℕ) = targets_of (drop (index + 1) drawn) in
    ap (λ (list : List (Option ℕ)). list ++ rest)
    (c.in_ok-push.ensures.items ∙ ap (λ (target : Option ℕ). before ++ target ∷ []) c.target.ensures)
    ∙ append_assoc before (shared_target one.role one.targets ∷ []) rest
    ∙ ap (λ (list : List Drawn). before ++ targets_of list)
    (sym (drawn_left c.args.self.now.automaton.now.propositions (role_at c.args.self.now.roles.now) c.args.self.now.first c.args.self.now.state.now
    index c.args.self.now.state.now.edges c.edge-edge.result c.edge-edge.ensures.within c.edge-edge.ensures.here))
    ∙ c.loop-index.invariant
