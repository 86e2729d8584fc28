-- there is a start, each letter is answered, and the words are accepted
use Rattle.std.proofs.Common.{◌<◌, length, ap, subst, arith}
use Rattle.omega_lang_inclusion.specs.Containing.{IsContainment}
use Rattle.omega_synth_check.specs.Lacks.{AreReachedSettled, IsLackOf}
use Rattle.omega_synth_controllers.proofs.Starts.{first_start}
use Rattle.omega_synth_check.proofs.judging.judgement_of.Goals as goal

pub returns-in-Contained : goal.returns-in-Contained
returns-in-Contained c =
    let a = c.args.controller.now in
    let some : 0 < length a.starts = omega (arith, c.if-starts-eq0.false, ap length c.starts.ensures) in
    let settled : AreReachedSettled a c.args._controlled.now = subst (IsLackOf a c.args._controlled.now) c.in-None.is c.requires.lack in (
      record {
        begins = first_start a c.keeps_limits.ensures c.requires.plain some;
        answered = λ state given reached. (settled.1 state reached).0 given;
      },
      subst (IsContainment a c.args._specification.now) c.in-Contained.is c.requires.contained,
    )

pub returns-in-NotContained : goal.returns-in-NotContained
returns-in-NotContained c =
    let a = c.args.controller.now in
    let some : 0 < length a.starts = omega (arith, c.if-starts-eq0.false, ap length c.starts.ensures) in
    let settled : AreReachedSettled a c.args._controlled.now = subst (IsLackOf a c.args._controlled.now) c.in-None.is c.requires.lack in (
      record {
        begins = first_start a c.keeps_limits.ensures c.requires.plain some;
        answered = λ state given reached. (settled.1 state reached).0 given;
      },
      subst (IsContainment a c.args._specification.now) c.in-NotContained.is c.requires.contained,
    )
