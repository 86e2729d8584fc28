-- both contain the other
use Rattle.std.proofs.Common.{subst}
use Rattle.omega_lang_inclusion.specs.Containing.{IsContainment}
use Rattle.omega_lang_inclusion.specs.declared.containment.Containment.{Containment}
use Rattle.omega_lang_inclusion.proofs.equality.equality_of.Goals as goal

pub returns-in-Contained-back : goal.returns-in-Contained-back
returns-in-Contained-back c = λ first second there back. (
  subst (λ (a : Containment). IsContainment first second a) c.in-Contained.is there,
  subst (λ (a : Containment). IsContainment second first a) c.in-Contained-back.is back,
)
