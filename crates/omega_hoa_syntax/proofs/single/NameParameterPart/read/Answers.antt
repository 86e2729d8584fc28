-- The value of a token is read, or no token of such a kind is next.
use Rattle.omega_hoa_syntax.proofs.BegunLemmas.{parameter_begun}
use Rattle.omega_hoa_syntax.proofs.StepLemmas.{token_absent, token_unshown, token_written}
use Rattle.omega_hoa_syntax.proofs.ValueLemmas.{parameter_begins, parameter_false, parameter_number, parameter_symbol, parameter_true, parameter_unshown, parameter_word}
use Rattle.omega_hoa_syntax.specs.Grammar.{parameter_row}
use Rattle.std.proofs.Common.{ap, ◌∙◌}
use Rattle.omega_hoa_acceptance.specs.declared.name.Parameter.TheVariants as parameter
use Rattle.omega_hoa_syntax.proofs.single.NameParameterPart.read.Goals as goal

pub returns-in_default-clause-finds : goal.returns-in_default-clause-finds
returns-in_default-clause-finds g c = token_absent parameter_row parameter_symbol _ _ _ parameter_begins parameter_begun c.in_default.ensures.none.0 c.place-at.ensures

pub returns-in-True-clause-finds : goal.returns-in-True-clause-finds
returns-in-True-clause-finds g c = token_written parameter_row parameter_symbol _ _ _ _ parameter_begins (parameter_true _ c.in-True.is) c.in-Some.ensures.some

pub returns-in-False-clause-finds : goal.returns-in-False-clause-finds
returns-in-False-clause-finds g c = token_written parameter_row parameter_symbol _ _ _ _ parameter_begins (parameter_false _ c.in-False.is) c.in-Some.ensures.some

pub returns-in-Int-clause-finds : goal.returns-in-Int-clause-finds
returns-in-Int-clause-finds g c = token_written parameter_row parameter_symbol _ _ _ _ parameter_begins (parameter_number _ c.in-Int.is) c.in-Some.ensures.some

pub returns-in_ok-copy_of_bytes-in-Identifier-clause-finds : goal.returns-in_ok-copy_of_bytes-in-Identifier-clause-finds
returns-in_ok-copy_of_bytes-in-Identifier-clause-finds g c =
    token_written parameter_row parameter_symbol _ _ _ _ parameter_begins (λ wanted shows. ap parameter.Word c.in_ok-copy_of_bytes-in-Identifier.ensures.ok ∙ parameter_word _ c.in-Identifier.is wanted shows) c.in-Some.ensures.some

pub returns-in_default-kind-clause-finds : goal.returns-in_default-kind-clause-finds
returns-in_default-kind-clause-finds g c =
    token_unshown parameter_row parameter_symbol _ _ _ _ _ parameter_begins (parameter_unshown _ c.in_default-kind.not-True c.in_default-kind.not-False c.in_default-kind.not-Int c.in_default-kind.not-Identifier) parameter_begun c.in-Some.ensures.some c.place-at.ensures
