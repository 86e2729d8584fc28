-- `request_of_matches`: a fault is that of what is wrong with the options that `clap` found.
use Rattle.std.proofs.Common.{inr}
use Rattle.std.proofs.lemmas.Result.{IfOk-weaker}
use Rattle.omega_cli.proofs.words.request_of_matches.Goals as goal

pub returns-in-Err-clause-request : goal.returns-in-Err-clause-request
returns-in-Err-clause-request c =
    IfOk-weaker c.fault_of_mistake.result _ _
    (λ request fault. (
      c.options_in.result,
      c.options_in.ensures.texts,
      c.options_in.ensures.formulas,
      inr (c.in-Err.mistake, c.in-Err.ensures.mistaken, fault),
    ))
    c.fault_of_mistake.ensures.fault
