-- there is this label
use Rattle.std.proofs.Common.{◌↔◌, IfOk, IsTrue, Option, ap, subst, sym}
use Rattle.std.specs.Option.{option_copied}
use Rattle.omega_hoa_label.specs.Label.{LabelTree}
use Rattle.omega_lang_inclusion.specs.private.Opened.{CanBeBoth}
use Rattle.omega_lang_inclusion.proofs.open_letters.can_label_be_both.Goals as goal

pub returns-in-Some-clause-right : goal.returns-in-Some-clause-right
returns-in-Some-clause-right c =
    subst (λ (label : Option LabelTree). IfOk c.can_be_both.result (λ both. IsTrue both ↔ CanBeBoth c.args.held.now c.args.unheld.now label))
    (sym (ap option_copied c.in-Some.is)) c.can_be_both.ensures.right
