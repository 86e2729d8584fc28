-- One latch more.
use Rattle.std.proofs.Common.{rules, ◌+◌, ◌*◌, List, get_or, take, sym, ap, subst, arith}
use Rattle.std.proofs.lemmas.List.{get_or_default}
use Rattle.omega_circuit.specs.private.Renumbered.{AreLatchesFrom}
use Rattle.omega_circuit.specs.declared.latch.Latch.{Latch}
use Rattle.omega_circuit.proofs.Reordering.{latches_all, latches_more}
use Rattle.omega_circuit.proofs.canonical.latches_from.Goals as goal

pub loop-k-init : goal.loop-k-init
loop-k-init c = record { long = search rules; each = λ k within. absurd (omega (arith, within)) }

pub loop-k-preserved : goal.loop-k-preserved
loop-k-preserved c =
    let latches = c.args.latches.now in
    let nexts = c.args.nexts.now in
    let k = c.loop-k.k in
    subst (λ (xs : List Latch). AreLatchesFrom c.args.first (take (k + 1) latches) nexts xs) (sym c.in_ok-push.ensures.items)
    (latches_more c.args.first latches nexts c.loop-k.made.items k _ c.loop-k-test.true c.loop-k.invariant
    (ap (λ (latch : Latch). record { literal = 2 * (c.args.first + k); next = get_or nexts k 0; reset = latch.reset })
    (get_or_default latches k _ (record { literal = 0; next = 0; reset = 0 }) c.loop-k-test.true)))

pub returns : goal.returns
returns c = latches_all c.args.first c.args.latches.now c.args.nexts.now c.loop-k.made.items c.loop-k.k c.loop-k-test.false c.loop-k.invariant
