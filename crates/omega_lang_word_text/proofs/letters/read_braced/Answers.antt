-- `{` and a cycle, or where either is missing.
use Rattle.std.proofs.Common.{refl, sym, subst}
use Rattle.std.proofs.lemmas.Result.{IfErr-weaker, IfOk-weaker}
use Rattle.omega_hoa_expression.proofs.PassingLemmas.{error_then}
use Rattle.omega_hoa_expression.proofs.UnreadLemmas.{first_same}
use Rattle.omega_hoa_expression.specs.Unread.{IsUnread}
use Rattle.omega_lang_word_text.specs.private.Parts.{BeginsPart, ReadsBraced, ReadsCycle, ReadsNo}
use Rattle.omega_lang_word_text.proofs.Leading.{braced_reads_after, braced_refused, lacks_brace}
use Rattle.omega_lang_word_text.proofs.letters.read_braced.Goals as goal

pub returns-in_err-pass-clause-err : goal.returns-in_err-pass-clause-err
returns-in_err-pass-clause-err g c =
    error_then c.from_residual.result _ _ c.from_residual.ensures.1
    (λ e is. first_same (ReadsNo ReadsBraced) (BeginsPart ReadsBraced) (g.S.TokenSource.left c.args.source.now) _ _ _ e is refl
    (lacks_brace (g.S.TokenSource.length c.args.source.now) (g.S.TokenSource.left c.args.source.now) _ c.in_err-pass.ensures.err))

pub returns-clause-err : goal.returns-clause-err
returns-clause-err g c =
    IfErr-weaker c.read_cycle.result _ _
    (λ refusal unread. braced_refused (g.S.TokenSource.length c.args.source.now) refusal (g.S.TokenSource.left c.args.source.now) (g.S.TokenSource.left c.pass.new.source) c.in_ok-pass.ensures.ok
    (subst (λ n. IsUnread (ReadsNo ReadsCycle) (BeginsPart ReadsCycle) (g.S.TokenSource.left c.pass.new.source) n refusal) c.in_ok-pass.ensures.length unread))
    c.read_cycle.ensures.err

pub returns-clause-ok : goal.returns-clause-ok
returns-clause-ok g c =
    IfOk-weaker c.read_cycle.result _ _
    (λ cycle reads. braced_reads_after (g.S.TokenSource.left c.args.source.now) (g.S.TokenSource.left c.pass.new.source) _ c.in_ok-pass.ensures.ok reads)
    c.read_cycle.ensures.ok
