-- `write_shared_lines`: the first edge, and an edge more.
use Rattle.std.proofs.Common.{◌≡◌, ℕ, ◌+◌, ◌-◌, ◌<◌, Some, None, List, ◌++◌, length, get_or, sym, ap, subst, ◌∙◌, arith}
use Rattle.std.specs.Prelude.{Option}
use Rattle.std.specs.Option.{option_map_or}
use Rattle.std.proofs.lemmas.List.{get_or-map, length-map}
use Rattle.omega_hoa_automaton.specs.declared.edge.Edge.{Edge}
use Rattle.omega_hoa_dot.specs.Arrows.{Drawn, shared_target}
use Rattle.omega_hoa_dot.specs.private.layout.Drawing.{drawn_all, drawn_at}
use Rattle.omega_hoa_dot.specs.private.layout.Marking.{role_at}
use Rattle.omega_hoa_dot.specs.private.layout.Sharing.{next_to, targets_of}
use Rattle.omega_hoa_dot.proofs.Drawn.{drawn_here, length-drawn}
use Rattle.omega_hoa_dot.proofs.Shared.{IsThere, first_shared, first_there, lines_written, next_later, next_there, rest_from}
use Rattle.omega_hoa_dot.proofs.shared_arrows.write_shared_lines.Goals as goal

abbrev key : Drawn → Option ℕ
key edge = shared_target edge.role edge.targets

abbrev lines_of : Drawn → List ℕ
lines_of edge = edge.lines

-- an edge whose target is known by its index
same_key : (edges : List Drawn) (index target : ℕ) (one : Drawn) → index < length edges → one ≡ get_or edges index one
    → get_or (targets_of edges) index None ≡ Some target → key one ≡ Some target
same_key edges index target one below here is = ap key here ∙ sym (get_or-map key edges index one None below) ∙ is

pub loop-at-init : goal.loop-at-init
loop-at-init c =
    let drawn : List Drawn = drawn_all c.args.edges.now in
    record {
      there = first_there key lines_of c.args._target c.args.index drawn c.requires.first;
      whole = ap (λ (list : List ℕ). c.args.out.now.items ++ list) (sym (first_shared key lines_of c.args._target c.args.index drawn c.requires.first));
    }

pub edge-edge-requires-clause-within : goal.edge-edge-requires-clause-within
edge-edge-requires-clause-within c =
    let drawn : List Drawn = drawn_all c.args.edges.now in
    let edges : List Edge = c.args.edges.now.state.now.edges in
    let there = subst (IsThere key lines_of c.args._target drawn) c.in-Some.is c.loop-at.invariant.there in
    let below : c.in-Some.index < length drawn = there.0 in
    omega (
      arith,
      below,
      length-drawn c.args.edges.now.automaton.now.propositions (role_at c.args.edges.now.roles.now) c.args.edges.now.first c.args.edges.now.state.now 0 edges,
    )

pub loop-at-smaller : goal.loop-at-smaller
loop-at-smaller c =
    let drawn : List Drawn = drawn_all c.args.edges.now in
    let there = subst (IsThere key lines_of c.args._target drawn) c.in-Some.is c.loop-at.invariant.there in
    let below : c.in-Some.index < length drawn = there.0 in
    let entry : c.in-Some.index < length (targets_of drawn) = omega (arith, below, length-map drawn key) in
    let next : c.next-at.result ≡ next_to (targets_of drawn) (c.in-Some.index + 1) c.args._target =
    c.next-at.ensures ∙ c.requires.sharing.next c.in-Some.index c.args._target entry there.1 in
    subst (λ (at : Option ℕ). option_map_or (λ (j : ℕ). length drawn - j) c.next-at.result 0 < option_map_or (λ (j : ℕ). length drawn - j) at 0) (sym c.in-Some.is)
    (next_later key lines_of c.args._target c.in-Some.index drawn c.next-at.result below next)

pub loop-at-preserved : goal.loop-at-preserved
loop-at-preserved c =
    let drawn : List Drawn = drawn_all c.args.edges.now in
    let one : Drawn = drawn_at c.args.edges.now c.in-Some.index c.edge-edge.result in
    let there = subst (IsThere key lines_of c.args._target drawn) c.in-Some.is c.loop-at.invariant.there in
    let below : c.in-Some.index < length drawn = there.0 in
    let entry : c.in-Some.index < length (targets_of drawn) = omega (arith, below, length-map drawn key) in
    let next : c.next-at.result ≡ next_to (targets_of drawn) (c.in-Some.index + 1) c.args._target =
    c.next-at.ensures ∙ c.requires.sharing.next c.in-Some.index c.args._target entry there.1 in
    let here : one ≡ get_or drawn c.in-Some.index one =
    drawn_here c.args.edges.now.automaton.now.propositions (role_at c.args.edges.now.roles.now) c.args.edges.now.first c.args.edges.now.state.now
    c.in-Some.index c.args.edges.now.state.now.edges c.edge-edge.result c.edge-edge.ensures.within c.edge-edge.ensures.here in
    record {
      there = next_there key lines_of c.args._target c.in-Some.index drawn c.next-at.result below next;
      whole =
          lines_written key lines_of c.args._target c.in-Some.index drawn one c.next-at.result c.loop-at.out.items _ _ below here
          (same_key drawn c.in-Some.index c.args._target one below here there.1) next c.in_ok-write_lines.ensures.ok
          (ap (λ (at : Option ℕ). c.loop-at.out.items ++ rest_from key lines_of c.args._target drawn at) (sym c.in-Some.is) ∙ c.loop-at.invariant.whole);
    }
