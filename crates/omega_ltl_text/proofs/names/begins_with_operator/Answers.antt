-- Both tests are those of the definition.
use Rattle.std.proofs.Common.{◌&&◌, not, ap, ap₂, ◌∙◌}
use Rattle.std.specs.Option.{is_some}
use Rattle.omega_text.specs.Bytes.{is_digit}
use Rattle.omega_ltl_text.specs.Tokens.{letter_operator}
use Rattle.omega_ltl_text.proofs.names.begins_with_operator.Goals as goal

pub returns : goal.returns
returns c =
    c.is_free.ensures
    ∙ ap₂ (λ operator digit. operator && not digit) (c.is_operator-operator.ensures ∙ ap (λ byte. is_some (letter_operator byte)) c.byte_at.ensures)
    (c.is_digit-digit.ensures ∙ ap is_digit c.byte_at-2.ensures)
