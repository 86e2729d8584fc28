-- A letter more after `;`, or where that is missing, or `}`.
use Rattle.std.proofs.Common.{◌≡◌, List, refl, sym, subst, append-nil, ◌∙◌}
use Rattle.omega_hoa_expression.proofs.PassingLemmas.{error_then}
use Rattle.omega_hoa_expression.proofs.UnreadLemmas.{first_same}
use Rattle.omega_hoa_label.specs.Raw.{RawLabelTree}
use Rattle.omega_lang_word_text.specs.private.Parts.{BeginsPart, ReadsNo, ReadsOthers}
use Rattle.omega_lang_word_text.specs.private.Stems.{LeadsToOthers}
use Rattle.omega_lang_word_text.proofs.Following.{Tokens}
use Rattle.omega_lang_word_text.proofs.Leading.{all_others, ended_refused, leads_more, others_lack_letter}
use Rattle.omega_lang_word_text.proofs.letters.read_others.Goals as goal

pub returns-in_err-letter-clause-err : goal.returns-in_err-letter-clause-err
returns-in_err-letter-clause-err g c =
    error_then c.from_residual.result _ _ c.from_residual.ensures.1
    (λ e is. first_same (ReadsNo ReadsOthers) (BeginsPart ReadsOthers) (g.S.TokenSource.left c.args.source.now) _ _ _ e is (c.loop-alloc-test.ensures.length ∙ c.loop-alloc.invariant.text)
    (others_lack_letter _ _ (g.S.TokenSource.left c.args.source.now) (g.S.TokenSource.left c.loop-alloc.source) (g.S.TokenSource.left c.is_passed.new.source) c.loop-alloc.others.items
    c.loop-alloc.invariant.leads c.loop-alloc-test.ensures.passed c.in_err-letter.ensures.err))

pub returns-in_err-end-clause-err : goal.returns-in_err-end-clause-err
returns-in_err-end-clause-err g c =
    error_then c.from_residual-in_err-end.result _ _ c.from_residual-in_err-end.ensures.1
    (λ e is. first_same (ReadsNo ReadsOthers) (BeginsPart ReadsOthers) (g.S.TokenSource.left c.args.source.now) _ _ _ e is (c.loop-alloc-test.ensures.length ∙ c.loop-alloc.invariant.text)
    (ended_refused _ _ (g.S.TokenSource.left c.args.source.now) (g.S.TokenSource.left c.loop-alloc.source) (g.S.TokenSource.left c.is_passed.new.source) c.loop-alloc.others.items
    c.loop-alloc.invariant.leads c.loop-alloc-test.ensures.passed c.in_err-end.ensures.err))

pub loop-alloc-preserved : goal.loop-alloc-preserved
loop-alloc-preserved g c = record {
  leads =
      subst (λ (s : List RawLabelTree). LeadsToOthers (g.S.TokenSource.left c.args.source.now) s (g.S.TokenSource.left c.read_raw_label.new.source)) (sym c.in_ok-push.ensures.items)
      (leads_more c.labels_are_one.ensures (g.S.TokenSource.left c.args.source.now) (g.S.TokenSource.left c.loop-alloc.source) (g.S.TokenSource.left c.is_passed.new.source)
      (g.S.TokenSource.left c.read_raw_label.new.source) c.loop-alloc.others.items c.in_ok-letter.letter c.loop-alloc.invariant.leads c.loop-alloc-test.ensures.passed c.in_ok-letter.ensures.ok);
  text = c.in_ok-letter.ensures.length ∙ (c.loop-alloc-test.ensures.length ∙ c.loop-alloc.invariant.text);
}

pub returns-clause-ok : goal.returns-clause-ok
returns-clause-ok g c =
    all_others (g.S.TokenSource.left c.args.source.now) (g.S.TokenSource.left c.loop-alloc.source) (g.S.TokenSource.left c.is_passed.new.source) c.loop-alloc.others.items
    c.loop-alloc.invariant.leads c.loop-alloc-test.ensures.passed c.in_ok-end.ensures.ok
