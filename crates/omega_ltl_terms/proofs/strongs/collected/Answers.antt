use Rattle.std.proofs.Common.{◌≡◌, ℕ, length, sym, subst, arith}
use Rattle.omega_ltl_terms.specs.private.Strongs.{AreCollected}
use Rattle.omega_ltl_terms.proofs.StrongLemmas.{collected_none}
use Rattle.omega_ltl_terms.proofs.strongs.collected.Goals as goal

pub loop-d-init : goal.loop-d-init
loop-d-init c = subst (AreCollected c.args.shapes.now c.args.wanted.now 0) (sym c.new-strongs.ensures) (collected_none c.args.shapes.now c.args.wanted.now)

pub returns-clause-collected : goal.returns-clause-collected
returns-clause-collected c = subst (λ (n : ℕ). AreCollected c.args.shapes.now c.args.wanted.now n c.loop-d.strongs)
    (let e : c.loop-d.d ≡ length c.args.shapes.now = omega arith in e) c.loop-d.invariant
