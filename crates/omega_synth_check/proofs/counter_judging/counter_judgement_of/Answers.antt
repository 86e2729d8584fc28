-- no start, no letter, a common word, or none of these
use Rattle.std.proofs.Common.{length, ap, subst, arith}
use Rattle.omega_lang_intersection.specs.Intersection.{IsIntersection}
use Rattle.omega_synth_check.specs.private.Letterless.{IsLetterlessFound}
use Rattle.omega_synth_check.proofs.Begins.{begins_beside, starts_nowhere}
use Rattle.omega_synth_check.proofs.counter_judging.counter_judgement_of.Goals as goal
use Rattle.omega_synth_check.proofs.counter_judging.counter_judgement_of.Goals.{else-starts-eq0-via-then-starts-eq0+else-starts-gt0, else-starts-eq0-via-else-starts-eq0}

pub returns-then-starts-gt0 : goal.returns-then-starts-gt0
returns-then-starts-gt0 c =
    starts_nowhere c.args.specification.now c.args.strategy.now c.args._controlled.now c.keeps_limits.ensures c.requires.specified
    (omega (arith, c.if-starts-eq0.true, ap length c.starts.ensures)) (omega (arith, c.if-starts-gt0.true, ap length c.starts-then-starts-eq0.ensures))

pub returns-in-Some : goal.returns-in-Some
returns-in-Some c =
    let one = c.args.specification.now in
    let own = c.args.strategy.now in (
      begins_beside one own c.keeps_limits-2.ensures c.requires.plain
          (elim c.else-starts-eq0.branch [
            | else-starts-eq0-via-then-starts-eq0+else-starts-gt0 w ↦ λ e. omega (arith, w.if-starts-gt0.false, ap length w.starts-then-starts-eq0.ensures)
            | else-starts-eq0-via-else-starts-eq0 w ↦ λ e. absurd (omega (arith, e, w.if-starts-eq0.false, ap length c.starts.ensures))
          ]),
      subst (IsLetterlessFound one own c.args._controlled.now) c.in-Some.is c.requires.letterless,
    )

pub returns-in-Common : goal.returns-in-Common
returns-in-Common c =
    let one = c.args.specification.now in
    let own = c.args.strategy.now in (
      begins_beside one own c.keeps_limits-2.ensures c.requires.plain
          (elim c.else-starts-eq0.branch [
            | else-starts-eq0-via-then-starts-eq0+else-starts-gt0 w ↦ λ e. omega (arith, w.if-starts-gt0.false, ap length w.starts-then-starts-eq0.ensures)
            | else-starts-eq0-via-else-starts-eq0 w ↦ λ e. absurd (omega (arith, e, w.if-starts-eq0.false, ap length c.starts.ensures))
          ]),
      subst (IsLetterlessFound one own c.args._controlled.now) c.in-None.is c.requires.letterless,
      subst (IsIntersection own one) c.in-Common.is c.requires.common,
    )

pub returns-in-Empty : goal.returns-in-Empty
returns-in-Empty c =
    let one = c.args.specification.now in
    let own = c.args.strategy.now in
    record {
      begins = begins_beside one own c.keeps_limits-2.ensures c.requires.plain
          (elim c.else-starts-eq0.branch [
            | else-starts-eq0-via-then-starts-eq0+else-starts-gt0 w ↦ λ e. omega (arith, w.if-starts-gt0.false, ap length w.starts-then-starts-eq0.ensures)
            | else-starts-eq0-via-else-starts-eq0 w ↦ λ e. absurd (omega (arith, e, w.if-starts-eq0.false, ap length c.starts.ensures))
          ]);
      follows = subst (IsLetterlessFound one own c.args._controlled.now) c.in-None.is c.requires.letterless;
      refused = λ word first second.
          subst (IsIntersection own one) c.in-Empty.is c.requires.common word (record { first = first; second = second });
    }
