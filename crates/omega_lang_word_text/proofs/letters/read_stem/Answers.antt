-- A letter more and `;`, or where that is missing, or `cycle`.
use Rattle.std.proofs.Common.{◌≡◌, List, refl, sym, subst, ◌∙◌}
use Rattle.omega_hoa_expression.proofs.PassingLemmas.{error_then}
use Rattle.omega_hoa_expression.proofs.UnreadLemmas.{first_same}
use Rattle.omega_hoa_label.specs.Raw.{RawLabelTree}
use Rattle.omega_hoa_label_text.specs.Reading.{Reads}
use Rattle.omega_lang_word_text.specs.Grammar.{BeginsWord, ReadsNoWord}
use Rattle.omega_lang_word_text.specs.private.Stems.{LeadsOn}
use Rattle.omega_lang_word_text.proofs.Following.{Tokens}
use Rattle.omega_lang_word_text.proofs.Leading.{leads_letter, leads_to_cycle, stem_lacks_letter, stem_lacks_semicolon}
use Rattle.omega_lang_word_text.proofs.letters.read_stem.Goals as goal

pub returns-in_err-letter-clause-err : goal.returns-in_err-letter-clause-err
returns-in_err-letter-clause-err g c =
    error_then c.from_residual.result _ _ c.from_residual.ensures.1
    (λ e is. first_same ReadsNoWord BeginsWord (g.S.TokenSource.left c.args.source.now) _ _ _ e is (c.loop-alloc-test.ensures.length ∙ c.loop-alloc.invariant.text)
    (stem_lacks_letter _ _ (g.S.TokenSource.left c.args.source.now) (g.S.TokenSource.left c.loop-alloc.source) (g.S.TokenSource.left c.is_passed.new.source) c.loop-alloc.stem.items
    c.loop-alloc.invariant.leads c.loop-alloc-test.ensures.passed c.loop-alloc-test.ensures.other c.in_err-letter.ensures.err))

pub returns-in_err-pass-clause-err : goal.returns-in_err-pass-clause-err
returns-in_err-pass-clause-err g c =
    error_then c.from_residual-in_err-pass.result _ _ c.from_residual-in_err-pass.ensures.1
    (λ e is. first_same ReadsNoWord BeginsWord (g.S.TokenSource.left c.args.source.now) _ _ _ e is
    (c.in_ok-letter.ensures.length ∙ (c.loop-alloc-test.ensures.length ∙ c.loop-alloc.invariant.text))
    (stem_lacks_semicolon _ _ c.labels_are_one.ensures (g.S.TokenSource.left c.args.source.now) (g.S.TokenSource.left c.loop-alloc.source) (g.S.TokenSource.left c.is_passed.new.source)
    (g.S.TokenSource.left c.read_raw_label.new.source) c.loop-alloc.stem.items c.in_ok-letter.letter
    c.loop-alloc.invariant.leads c.loop-alloc-test.ensures.passed c.in_ok-letter.ensures.ok c.in_err-pass.ensures.err))

pub loop-alloc-preserved : goal.loop-alloc-preserved
loop-alloc-preserved g c = record {
  leads =
      subst (λ (s : List RawLabelTree). LeadsOn (g.S.TokenSource.left c.args.source.now) s (g.S.TokenSource.left c.pass.new.source)) (sym c.in_ok-push.ensures.items)
      (leads_letter c.labels_are_one.ensures (g.S.TokenSource.left c.args.source.now) (g.S.TokenSource.left c.loop-alloc.source) (g.S.TokenSource.left c.read_raw_label.new.source)
      (g.S.TokenSource.left c.pass.new.source) c.loop-alloc.stem.items c.in_ok-letter.letter c.loop-alloc.invariant.leads
      (subst (λ (t : Tokens). Reads t c.in_ok-letter.letter (g.S.TokenSource.left c.read_raw_label.new.source)) c.loop-alloc-test.ensures.passed c.in_ok-letter.ensures.ok)
      c.in_ok-pass.ensures.ok);
  text = c.in_ok-pass.ensures.length ∙ (c.in_ok-letter.ensures.length ∙ (c.loop-alloc-test.ensures.length ∙ c.loop-alloc.invariant.text));
}

pub returns-clause-leads : goal.returns-clause-leads
returns-clause-leads g c =
    leads_to_cycle (g.S.TokenSource.left c.args.source.now) (g.S.TokenSource.left c.loop-alloc.source) (g.S.TokenSource.left c.is_passed.new.source) c.loop-alloc.stem.items
    c.loop-alloc.invariant.leads c.loop-alloc-test.ensures.passed
