-- One unit more, and the one that is not ended.
use Rattle.std.proofs.Common.{◌≡◌, ◌+◌, ◌-◌, subst, arith}
use Rattle.omega_text.specs.private.hoa.scanning.Passing.{IsSimple, Passes}
use Rattle.omega_text.specs.private.hoa.scanning.Unfinished.{fresh}
use Rattle.omega_text.proofs.hoa_texts.Passing.{passes_then}
use Rattle.omega_text.proofs.hoa.passing.pass_simple.Goals as goal

pub loop-place-preserved : goal.loop-place-preserved
loop-place-preserved c =
    let place = c.loop-place.place in
    let at = c.args.start + (place - c.args.from) in
    let end = c.in-Ended.end in
    let unit = subst (IsSimple at c.args.bytes.now place) c.in-Ended.is c.simple_unit.ensures in
    let next : at + (end - place) ≡ c.args.start + (end - c.args.from) = omega (arith, c.loop-place.invariant.forward, unit.0) in
    passes_then c.args.start c.args.bytes.now c.args.from place end (fresh c.args.start) (fresh at) (fresh (c.args.start + (end - c.args.from)))
    c.loop-place.invariant (subst (λ n. Passes at c.args.bytes.now place end (fresh at) (fresh n)) next unit.1)

pub returns-in-Begun : goal.returns-in-Begun
returns-in-Begun c =
    let at = c.args.start + (c.loop-place.place - c.args.from) in
    passes_then c.args.start c.args.bytes.now c.args.from c.loop-place.place c.in-Begun.end (fresh c.args.start) (fresh at) c.in-Begun.pending
    c.loop-place.invariant (subst (IsSimple at c.args.bytes.now c.loop-place.place) c.in-Begun.is c.simple_unit.ensures)
