-- there is a start, a letter in each state, and what is said of the words
use Rattle.std.proofs.Common.{length, ap, subst, arith}
use Rattle.omega_ltl_satisfaction.specs.SatisfyingWords.{AreSatisfyingWords}
use Rattle.omega_synth_controllers.proofs.Starts.{first_start}
use Rattle.omega_synth_formula.specs.Following.{IsLetterlessFound}
use Rattle.omega_synth_formula.proofs.counter_judging.counter_judgement_of.Goals as goal

pub returns-in-Common : goal.returns-in-Common
returns-in-Common c =
    let a = c.args.strategy.now in (
      first_start a c.keeps_limits.ensures c.requires.plain (omega (arith, c.if-starts-eq0.false, ap length c.starts.ensures)),
      subst (IsLetterlessFound a c.args._controlled.now) c.in-None.is c.requires.letterless,
      subst (AreSatisfyingWords a c.args._formula.now) c.in-Common.is c.requires.words,
    )

pub returns-in-Empty : goal.returns-in-Empty
returns-in-Empty c =
    let a = c.args.strategy.now in (
      first_start a c.keeps_limits.ensures c.requires.plain (omega (arith, c.if-starts-eq0.false, ap length c.starts.ensures)),
      subst (IsLetterlessFound a c.args._controlled.now) c.in-None.is c.requires.letterless,
      subst (AreSatisfyingWords a c.args._formula.now) c.in-Empty.is c.requires.words,
    )
