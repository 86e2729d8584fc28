-- The first letter and the others, or where either is missing.
use Rattle.std.proofs.Common.{refl, sym, subst}
use Rattle.omega_hoa_expression.proofs.PassingLemmas.{error_then}
use Rattle.omega_hoa_expression.proofs.UnreadLemmas.{first_same}
use Rattle.omega_lang_word_text.specs.private.Parts.{BeginsPart, ReadsCycle, ReadsNo}
use Rattle.omega_lang_word_text.proofs.Leading.{cycle_lacks_letter, cycle_reads, cycle_refused}
use Rattle.omega_lang_word_text.proofs.letters.read_cycle.Goals as goal

pub returns-in_err-first-clause-err : goal.returns-in_err-first-clause-err
returns-in_err-first-clause-err g c =
    error_then c.from_residual.result _ _ c.from_residual.ensures.1
    (λ e is. first_same (ReadsNo ReadsCycle) (BeginsPart ReadsCycle) (g.S.TokenSource.left c.args.source.now) _ _ _ e is refl
    (cycle_lacks_letter (g.S.TokenSource.length c.args.source.now) (g.S.TokenSource.left c.args.source.now) _ c.in_err-first.ensures.err))

pub returns-in_err-others-clause-err : goal.returns-in_err-others-clause-err
returns-in_err-others-clause-err g c =
    error_then c.from_residual-in_err-others.result _ _ c.from_residual-in_err-others.ensures.1
    (λ e is. first_same (ReadsNo ReadsCycle) (BeginsPart ReadsCycle) (g.S.TokenSource.left c.args.source.now) _ _ _ e is c.in_ok-first.ensures.length
    (cycle_refused _ _ c.labels_are_one.ensures (g.S.TokenSource.left c.args.source.now) (g.S.TokenSource.left c.read_raw_label.new.source) c.in_ok-first.first
    c.in_ok-first.ensures.ok c.in_err-others.ensures.err))

pub returns-clause-ok : goal.returns-clause-ok
returns-clause-ok g c =
    cycle_reads (g.S.TokenSource.left c.args.source.now) (g.S.TokenSource.left c.read_raw_label.new.source) c.in_ok-first.first c.in_ok-others.others.items
    c.in_ok-first.ensures.ok c.in_ok-others.ensures.ok
