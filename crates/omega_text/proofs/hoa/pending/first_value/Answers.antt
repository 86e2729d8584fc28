-- The value of one digit.
use Rattle.std.proofs.Common.{[], ◌∷◌, sym, subst, ◌∙◌}
use Rattle.omega_text.specs.private.hoa.scanning.Reading.{IsValueOf}
use Rattle.omega_text.proofs.hoa_texts.Values.{one_digit}
use Rattle.omega_text.proofs.hoa.pending.first_value.Goals as goal

pub returns : goal.returns
returns c = λ digit. subst (λ value. IsValueOf value (c.args.byte ∷ [])) (sym (c.from.ensures ∙ c.saturating_sub.ensures)) (one_digit c.args.byte digit)
