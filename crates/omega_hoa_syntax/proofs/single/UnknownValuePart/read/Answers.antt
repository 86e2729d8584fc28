-- The value of a token is read, or no token of such a kind is next.
use Rattle.omega_hoa_syntax.proofs.BegunLemmas.{value_begun}
use Rattle.omega_hoa_syntax.proofs.StepLemmas.{token_absent, token_unshown, token_written}
use Rattle.omega_hoa_syntax.proofs.ValueLemmas.{value_begins, value_false, value_number, value_symbol, value_text, value_true, value_unshown, value_word}
use Rattle.omega_hoa_syntax.specs.Grammar.{value_row}
use Rattle.std.proofs.Common.{ap, ◌∙◌}
use Rattle.omega_hoa_syntax.specs.declared.header_value.HeaderValue.TheVariants as value
use Rattle.omega_hoa_syntax.proofs.single.UnknownValuePart.read.Goals as goal

pub returns-in_default-clause-finds : goal.returns-in_default-clause-finds
returns-in_default-clause-finds g c = token_absent value_row value_symbol _ _ _ value_begins value_begun c.in_default.ensures.none.0 c.place-at.ensures

pub returns-in-True-clause-finds : goal.returns-in-True-clause-finds
returns-in-True-clause-finds g c = token_written value_row value_symbol _ _ _ _ value_begins (value_true _ c.in-True.is) c.in-Some.ensures.some

pub returns-in-False-clause-finds : goal.returns-in-False-clause-finds
returns-in-False-clause-finds g c = token_written value_row value_symbol _ _ _ _ value_begins (value_false _ c.in-False.is) c.in-Some.ensures.some

pub returns-in-Int-clause-finds : goal.returns-in-Int-clause-finds
returns-in-Int-clause-finds g c = token_written value_row value_symbol _ _ _ _ value_begins (value_number _ c.in-Int.is) c.in-Some.ensures.some

pub returns-in_ok-string_of-in-String-clause-finds : goal.returns-in_ok-string_of-in-String-clause-finds
returns-in_ok-string_of-in-String-clause-finds g c =
    token_written value_row value_symbol _ _ _ _ value_begins (λ wanted shows. ap value.Text c.in_ok-string_of-in-String.ensures.ok ∙ value_text _ c.in-String.is wanted shows) c.in-Some.ensures.some

pub returns-in_ok-copy_of_bytes-in-Identifier-clause-finds : goal.returns-in_ok-copy_of_bytes-in-Identifier-clause-finds
returns-in_ok-copy_of_bytes-in-Identifier-clause-finds g c =
    token_written value_row value_symbol _ _ _ _ value_begins (λ wanted shows. ap value.Word c.in_ok-copy_of_bytes-in-Identifier.ensures.ok ∙ value_word _ c.in-Identifier.is wanted shows) c.in-Some.ensures.some

pub returns-in_default-kind-clause-finds : goal.returns-in_default-kind-clause-finds
returns-in_default-kind-clause-finds g c =
    token_unshown value_row value_symbol _ _ _ _ _ value_begins (value_unshown _ c.in_default-kind.not-True c.in_default-kind.not-False c.in_default-kind.not-Int c.in_default-kind.not-String c.in_default-kind.not-Identifier) value_begun c.in-Some.ensures.some c.place-at.ensures
