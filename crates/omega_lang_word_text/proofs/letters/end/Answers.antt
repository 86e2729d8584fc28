-- `}` is missing, or something follows it.
use Rattle.std.proofs.Common.{refl, ap, ◌∙◌, subst, sym}
use Rattle.omega_hoa_expression.proofs.PassingLemmas.{error_then}
use Rattle.omega_hoa_expression.proofs.UnreadLemmas.{first_same}
use Rattle.omega_text.specs.Cursor.{next_place}
use Rattle.omega_text.specs.declared.refusal.Refusal.TheVariants.{Text}
use Rattle.omega_text.specs.declared.refusal.text.TextFault.TheVariants.{Syntax}
use Rattle.omega_lang_word_text.specs.private.Parts.{BeginsPart, ReadsNo, ReadsOthers}
use Rattle.omega_lang_word_text.proofs.Leading.{closed_there, goes_too_far, is_nonempty, lacks_close}
use Rattle.omega_lang_word_text.proofs.letters.end.Goals as goal

pub returns-in_err-pass-clause-err : goal.returns-in_err-pass-clause-err
returns-in_err-pass-clause-err g c =
    error_then c.from_residual.result _ _ c.from_residual.ensures.1
    (λ e is. first_same (ReadsNo ReadsOthers) (BeginsPart ReadsOthers) (g.S.TokenSource.left c.args.source.now) _ _ _ e is refl
    (lacks_close (g.S.TokenSource.length c.args.source.now) (g.S.TokenSource.left c.args.source.now) _ c.requires c.in_err-pass.ensures.err))

pub returns-then-is_some-clause-err : goal.returns-then-is_some-clause-err
returns-then-is_some-clause-err g c =
    goes_too_far (g.S.TokenSource.length c.args.source.now) (g.S.TokenSource.left c.args.source.now) (g.S.TokenSource.left c.pass.new.source) (Text (Syntax c.place-at.result))
    c.in_ok-pass.ensures.ok (is_nonempty c.look.result (g.S.TokenSource.left c.pass.new.source) c.look.ensures (sym c.is_some.ensures ∙ c.if-is_some.true))
    (ap (λ place. Text (Syntax place)) (c.place-at.ensures ∙ ap (next_place (g.S.TokenSource.left c.pass.new.source)) c.pass.ensures.length))

pub returns-clause-ok : goal.returns-clause-ok
returns-clause-ok g c =
    closed_there (g.S.TokenSource.left c.args.source.now) (g.S.TokenSource.left c.pass.new.source) c.look.result c.in_ok-pass.ensures.ok c.look.ensures (sym c.is_some.ensures ∙ c.if-is_some.false)
