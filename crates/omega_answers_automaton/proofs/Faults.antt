-- What the judge of lassos says of a lasso.
use Rattle.std.proofs.Common.{◌↔◌, Option, None, Some, refl}
use Rattle.std.specs.Prelude.{IfSome, IsNone}
use Rattle.omega_hoa_automaton.specs.Automaton.{Description}
use Rattle.omega_lang_runs.specs.Lasso.{IsAcceptingLasso}
use Rattle.omega_lang_lasso_check.specs.Fault.{IsLassoFault}
use Rattle.omega_lang_lasso_check.specs.declared.fault.LassoFault.{LassoFault}
use Rattle.omega_lang_lasso_text.specs.declared.lasso.LassoText.{LassoText}
use Rattle.omega_answers_automaton.specs.Verify.{IsFaultOf}

-- it names the first fault, or none of an accepting lasso
pub first_fault : (automaton : Description) (lasso : LassoText) (fault : Option LassoFault)
    → IsNone fault ↔ IsAcceptingLasso automaton lasso.stem lasso.cycle → IfSome fault (IsLassoFault automaton lasso.stem lasso.cycle)
    → IsFaultOf automaton lasso fault
first_fault automaton lasso None accepting fault = accepting.0 refl
first_fault automaton lasso (Some found) accepting fault = (λ accepts. let no = accepting.1 accepts in cc, fault)
