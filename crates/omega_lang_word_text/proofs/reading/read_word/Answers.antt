-- The text is too long, or can't be cut, or no word is read of its tokens, or one is.
use Rattle.std.proofs.Common.{◌≤◌, length, map, ap, refl, sym, subst, ◌∙◌, arith}
use Rattle.omega_text.specs.Lexeme.{lexeme_of}
use Rattle.omega_text.specs.Limits.{most_text}
use Rattle.omega_hoa_expression.proofs.PassingLemmas.{error_then}
use Rattle.omega_lang_word_text.specs.Text.{IsReadWordRefusal}
use Rattle.omega_lang_word_text.proofs.Refusals.{cursor_refused, fault_refused, read_text, word_shown}
use Rattle.omega_lang_word_text.proofs.reading.read_word.Goals as goal

pub returns-in_err-own-clause-refused : goal.returns-in_err-own-clause-refused
returns-in_err-own-clause-refused c =
    let short : length c.args.bytes.now ≤ most_text = omega arith in
    error_then c.from_residual.result _ _ c.from_residual.ensures.1
    (λ e is. subst (IsReadWordRefusal c.args.bytes.now) (sym is) (fault_refused c.args.bytes.now short _ c.in_err-own.ensures.refused))

pub returns-in_err-letters-clause-refused : goal.returns-in_err-letters-clause-refused
returns-in_err-letters-clause-refused c =
    let short : length c.args.bytes.now ≤ most_text = omega arith in
    let read = read_text c.args.bytes.now c.in_ok-own.own.items c.as_slice.result.now c.in_ok-made.made.names.items c.in_ok-made.made.tokens.items c.in_ok-own.ensures.cut c.as_slice.ensures.value
    c.in_ok-made.ensures.names c.in_ok-made.ensures.tokens in
    error_then c.from_residual-in_err-letters.result _ _ c.from_residual-in_err-letters.ensures.1
    (λ e is. subst (IsReadWordRefusal c.args.bytes.now) (sym is)
    (cursor_refused c.args.bytes.now short c.in_ok-made.made.names.items (map lexeme_of c.in_ok-made.made.tokens.items) c.new-source.result.0 c.new-source.result.1 read
    (c.new-source.ensures.tokens ∙ ap (map lexeme_of) c.as_slice-2.ensures.value) c.new-source.ensures.length _ c.in_err-letters.ensures.err))

pub returns-clause-word : goal.returns-clause-word
returns-clause-word c =
    let short : length c.args.bytes.now ≤ most_text = omega arith in
    let read = read_text c.args.bytes.now c.in_ok-own.own.items c.as_slice.result.now c.in_ok-made.made.names.items c.in_ok-made.made.tokens.items c.in_ok-own.ensures.cut c.as_slice.ensures.value
    c.in_ok-made.ensures.names c.in_ok-made.ensures.tokens in
    word_shown c.args.bytes.now short (record { names = c.from_vec.result; stem = c.from_vec-2.result; first = c.in_ok-letters.letters.cycle.first; others = c.from_vec-3.result })
    c.in_ok-made.made.names.items (map lexeme_of c.in_ok-made.made.tokens.items) c.new-source.result.0
    c.in_ok-letters.letters.stem.items c.in_ok-letters.letters.cycle.others.items c.in_ok-letters.letters.cycle.first read
    (c.new-source.ensures.tokens ∙ ap (map lexeme_of) c.as_slice-2.ensures.value) c.in_ok-letters.ensures.ok
    c.from_vec.ensures c.from_vec-2.ensures refl c.from_vec-3.ensures
