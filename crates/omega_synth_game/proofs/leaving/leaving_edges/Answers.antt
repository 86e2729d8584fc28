-- one edge more
use Rattle.std.proofs.Common.{◌≡◌, ◌+◌, ◌<◌, ℕ, List, length, get_or, sym, refl, subst, arith}
use Rattle.omega_synth_rounds.specs.Rounds.{no_edge}
use Rattle.omega_synth_rounds.specs.declared.rounds.RoundEdge.{RoundEdge}
use Rattle.omega_synth_game.specs.private.Making.{AreLeaving}
use Rattle.omega_synth_game.proofs.Leavers.{leaving_more}
use Rattle.omega_synth_game.proofs.leaving.leaving_edges.Goals as goal

pub loop-number-preserved : goal.loop-number-preserved
loop-number-preserved c =
    let edges : List RoundEdge = c.args.edges.now in
    let end : ℕ = c.loop-number.number in
    let source : ℕ = (get_or edges end no_edge).source in
    let below : source < c.args.count = c.requires.sources end no_edge (omega (arith, c.loop-number-test.true)) in
    subst (λ (lists : List (List ℕ)). AreLeaving edges c.args.count (end + 1) lists) (sym c.in_ok-add_to.ensures.added)
    (leaving_more edges c.args.count end source c.loop-number.lists.items c.loop-number.invariant refl below)

pub returns-clause-leaving : goal.returns-clause-leaving
returns-clause-leaving c =
    let all : c.loop-number.number ≡ length c.args.edges.now = omega (arith, c.loop-number-test.false, c.loop-number.auto.number-end) in
    subst (λ (end : ℕ). AreLeaving c.args.edges.now c.args.count end c.loop-number.lists.items) all c.loop-number.invariant
