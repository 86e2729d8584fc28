-- The value of digits with one digit more.
use Rattle.std.proofs.Common.{◌+◌, ◌*◌, inl, inr, [], ◌∷◌, ◌++◌, sym, subst, ◌∙◌, arith}
use Rattle.omega_text.specs.private.hoa.scanning.Reading.{IsValueOf}
use Rattle.omega_text.proofs.hoa_texts.Values.{no_more, one_more}
use Rattle.omega_text.proofs.hoa.pending.more_value.Goals as goal

pub returns-then-value-eq0 : goal.returns-then-value-eq0
returns-then-value-eq0 c = λ text digits digit before. no_more text c.args.byte digits digit c.args.value 2147483648 (omega arith) (inl c.if-value-eq0.true) before

pub returns-then-value : goal.returns-then-value
returns-then-value c = λ text digits digit before. no_more text c.args.byte digits digit c.args.value 2147483648 (omega arith) (inr (omega (arith, c.if-value.true))) before

pub returns-else-value : goal.returns-else-value
returns-else-value c = λ text digits digit before.
    subst (λ worth. IsValueOf (c.args.value * 10 + worth) (text ++ c.args.byte ∷ [])) (sym (c.from.ensures ∙ c.saturating_sub.ensures))
    (one_more text c.args.byte digits digit c.args.value c.if-value-eq0.false (omega (arith, c.if-value.false)) before)
