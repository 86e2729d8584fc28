-- One unit or one byte more.
use Rattle.std.proofs.Common.{◌<◌, ◌+◌, ◌-◌, length, arith}
use Rattle.omega_text.proofs.hoa_texts.Passing.{passes_byte, passes_none, passes_then, way_further, way_on}
use Rattle.omega_text.proofs.hoa.passing.pass_bytes.Goals as goal

pub loop-place-init : goal.loop-place-init
loop-place-init c = passes_none c.args.start c.args.bytes.now c.args.from c.args.pending c.requires.within

pub pass_plain-begun-requires-clause-way : goal.pass_plain-begun-requires-clause-way
pass_plain-begun-requires-clause-way c =
    way_further c.args.bytes.now c.args.from c.loop-place.place c.args.start c.args.pending c.loop-place.reached c.requires.way c.loop-place.invariant

pub returns-then-end-bytes-clause-passes : goal.returns-then-end-bytes-clause-passes
returns-then-end-bytes-clause-passes c =
    passes_then c.args.start c.args.bytes.now c.args.from c.loop-place.place c.pass_plain-begun.result.1 c.args.pending c.loop-place.reached c.pass_plain-begun.result.0
    c.loop-place.invariant c.pass_plain-begun.ensures

pub pass_byte-requires : goal.pass_byte-requires
pass_byte-requires c =
    let bytes = c.args.bytes.now in
    let end = c.pass_plain-begun.result.1 in
    let inside : end < length bytes = omega (arith, c.pass_plain-begun.ensures.within, c.if-end-bytes.false) in
    way_on bytes end (c.args.start + (end - c.args.from)) c.pass_plain-begun.result.0 inside
    (way_further bytes c.args.from end c.args.start c.args.pending c.pass_plain-begun.result.0 c.requires.way
    (passes_then c.args.start bytes c.args.from c.loop-place.place end c.args.pending c.loop-place.reached c.pass_plain-begun.result.0
    c.loop-place.invariant c.pass_plain-begun.ensures))

pub returns-in-None-clause-passes : goal.returns-in-None-clause-passes
returns-in-None-clause-passes c =
    passes_then c.args.start c.args.bytes.now c.args.from c.loop-place.place c.pass_plain-begun.result.1 c.args.pending c.loop-place.reached c.pass_plain-begun.result.0
    c.loop-place.invariant c.pass_plain-begun.ensures

pub loop-place-preserved : goal.loop-place-preserved
loop-place-preserved c =
    let bytes = c.args.bytes.now in
    let end = c.pass_plain-begun.result.1 in
    let begun = c.pass_plain-begun.result.0 in
    let inside : end < length bytes = omega (arith, c.pass_plain-begun.ensures.within, c.if-end-bytes.false) in
    passes_then c.args.start bytes c.args.from end (end + 1) c.args.pending begun c.in-Some.after
    (passes_then c.args.start bytes c.args.from c.loop-place.place end c.args.pending c.loop-place.reached begun c.loop-place.invariant c.pass_plain-begun.ensures)
    (passes_byte (c.args.start + (end - c.args.from)) bytes end begun c.in-Some.after inside c.in-Some.ensures.passes)

pub returns-in-None-clause-stops : goal.returns-in-None-clause-stops
returns-in-None-clause-stops c = λ inside. c.in-None.ensures.stops

pub returns-clause-stops : goal.returns-clause-stops
returns-clause-stops c = λ inside. absurd (omega (arith, inside, c.loop-place-test.false))

pub returns-then-end-bytes-clause-stops : goal.returns-then-end-bytes-clause-stops
returns-then-end-bytes-clause-stops c = λ inside. absurd (omega (arith, inside, c.if-end-bytes.true))
