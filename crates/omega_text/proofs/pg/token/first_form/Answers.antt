-- Bytes whose first is of no class begin no form.
use Rattle.std.proofs.Common.{inl, refl, sym, ◌∙◌}
use Rattle.omega_text.proofs.pg_texts.Longest.{no_head}
use Rattle.omega_text.proofs.pg.token.first_form.Goals as goal

pub returns-else-first-eq34-clause-fault : goal.returns-else-first-eq34-clause-fault
returns-else-first-eq34-clause-fault c =
    (refl, inl (no_head c.args.bytes.now (sym c.is_ascii_digit.ensures.value ∙ c.if-is_ascii_digit.false) (sym c.is_letter.ensures ∙ c.if-is_letter.false) c.if-first-eq34.false c.if-first-eq59.false c.if-first-eq44.false))
