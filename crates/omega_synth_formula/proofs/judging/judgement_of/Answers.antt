-- there is a start, each letter is answered, and what is said of the words
use Rattle.std.proofs.Common.{◌<◌, length, ap, subst, arith}
use Rattle.omega_ltl_satisfaction.specs.Satisfaction.{IsSatisfaction}
use Rattle.omega_synth_check.specs.Lacks.{AreReachedSettled, IsLackOf}
use Rattle.omega_synth_controllers.proofs.Starts.{first_start}
use Rattle.omega_synth_formula.proofs.judging.judgement_of.Goals as goal

pub returns-in-Satisfied : goal.returns-in-Satisfied
returns-in-Satisfied c =
    let a = c.args.controller.now in
    let some : 0 < length a.starts = omega (arith, c.if-starts-eq0.false, ap length c.starts.ensures) in
    let settled : AreReachedSettled a c.args._controlled.now = subst (IsLackOf a c.args._controlled.now) c.in-None.is c.requires.lack in (
      record {
        begins = first_start a c.keeps_limits.ensures c.requires.plain some;
        answered = λ state given reached. (settled.1 state reached).0 given;
      },
      subst (IsSatisfaction a c.args._formula.now) c.in-Satisfied.is c.requires.satisfied,
    )

pub returns-in-NotSatisfied : goal.returns-in-NotSatisfied
returns-in-NotSatisfied c =
    let a = c.args.controller.now in
    let some : 0 < length a.starts = omega (arith, c.if-starts-eq0.false, ap length c.starts.ensures) in
    let settled : AreReachedSettled a c.args._controlled.now = subst (IsLackOf a c.args._controlled.now) c.in-None.is c.requires.lack in (
      record {
        begins = first_start a c.keeps_limits.ensures c.requires.plain some;
        answered = λ state given reached. (settled.1 state reached).0 given;
      },
      subst (IsSatisfaction a c.args._formula.now) c.in-NotSatisfied.is c.requires.satisfied,
    )
