-- All tests are those of the definition.
use Rattle.std.proofs.Common.{◌&&◌, not, ap, ◌∙◌}
use Rattle.omega_text.specs.Bytes.{is_letter}
use Rattle.omega_ltl_text.specs.Written.{is_name}
use Rattle.omega_ltl_text.proofs.names.stands_bare.Goals as goal

pub returns : goal.returns
returns c =
    let letter = c.is_letter-letter.ensures ∙ ap is_letter c.byte_at.ensures in
    let named = c.is_name-named.ensures ∙ ap is_name c.word_kind.ensures in
    c.is_bare.ensures
    ∙ (λ i. ((letter i && c.all_go_on-word.ensures i) && not (c.begins_with_operator-operator.ensures i)) && named i)
