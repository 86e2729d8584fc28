-- the answer says whether both accept a word; the refusal of the graph
use Rattle.std.proofs.Common.{◌↔◌, Bool, IsTrue, sym, subst}
use Rattle.omega_lang_inclusion.specs.WordRefusing.{not_met}
use Rattle.omega_lang_inclusion.specs.private.Choosing.{AcceptCommon}
use Rattle.omega_lang_inclusion.proofs.Common.{common_said}
use Rattle.omega_lang_inclusion.proofs.one_word.meets.Goals as goal

pub returns-in-Err-clause-refused : goal.returns-in-Err-clause-refused
returns-in-Err-clause-refused c = not_met c.in-Err.ensures.refused

pub returns-in-Ok-clause-right : goal.returns-in-Ok-clause-right
returns-in-Ok-clause-right c =
    let one = c.args.one.now in
    let a = c.args.automaton.now in
    subst (λ (is : Bool). IsTrue is ↔ AcceptCommon one a) (sym c.is_common.ensures) (common_said one a c.in-Ok.answer c.in-Ok.ensures.right)
