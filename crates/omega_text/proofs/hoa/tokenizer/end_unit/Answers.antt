-- The unit that has ended, and the one that begins.
use Rattle.std.proofs.Common.{◌+◌, [], ◌++◌, ◌∷◌, length, None, Some, sym, subst, ◌∙◌, append-nil, append_assoc, ap}
use Rattle.omega_text.specs.declared.refusal.text.TextFault.TheVariants.{Lex}
use Rattle.omega_text.specs.hoa.Pieces.{SettlesFault, lexeme_in, lexemes_in}
use Rattle.omega_text.specs.private.hoa.scanning.Reading.{Any, IsAt, IsKept}
use Rattle.omega_text.specs.private.hoa.scanning.Unfinished.{IsGrown, IsTokenIn, fresh}
use Rattle.omega_text.proofs.hoa_texts.Pieces.{at_with, faulty, grown, judged, settled_as}
use Rattle.omega_text.proofs.hoa.tokenizer.end_unit.Goals as goal

pub returns-in-Err : goal.returns-in-Err
returns-in-Err c = λ seen lexemes place at ends.
    settled_as (λ fault ls. IsKept fault (seen ++ c.args.byte ∷ []) ls c.new-fresh.result) (seen ++ c.args.byte ∷ []) lexemes c.settled_tokens.result None None (Some c.in-Err.fault)
    c.settled_tokens.ensures.first c.settled_tokens.ensures.second c.settled_tokens.ensures.fault
    (subst (λ ls. SettlesFault (seen ++ c.args.byte ∷ []) ls c.in-Err.fault) (sym (append-nil lexemes))
    (faulty seen lexemes c.args.pending c.args.byte c.in-Err.fault (at_with seen lexemes c.args.pending c.args.byte at) ends c.in-Err.ensures.fault))

pub returns-in-None : goal.returns-in-None
returns-in-None c = λ seen lexemes place at ends.
    let token = subst (λ n. IsTokenIn c.args.pending.mode c.args.pending.value c.args.pending.start n c.in-Ok.token) place c.in-Ok.ensures.token in
    let before = judged seen lexemes c.args.pending c.args.byte c.in-Ok.token at ends token in
    settled_as (λ fault ls. IsKept fault (seen ++ c.args.byte ∷ []) ls c.new-fresh.result) (seen ++ c.args.byte ∷ []) lexemes c.settled_tokens-in-None.result (Some c.in-Ok.token) None (Some (Lex c.args.place))
    c.settled_tokens-in-None.ensures.first c.settled_tokens-in-None.ensures.second c.settled_tokens-in-None.ensures.fault
    (faulty seen (lexemes ++ lexeme_in (seen ++ c.args.byte ∷ []) c.in-Ok.token ∷ []) (fresh (length seen)) c.args.byte (Lex c.args.place) before (sym c.in-None.ensures) (ap Lex place))

pub returns-in-Some : goal.returns-in-Some
returns-in-Some c = λ seen lexemes place at ends.
    let source = seen ++ c.args.byte ∷ [] in
    let token = subst (λ n. IsTokenIn c.args.pending.mode c.args.pending.value c.args.pending.start n c.in-Ok.token) place c.in-Ok.ensures.token in
    let before = judged seen lexemes c.args.pending c.args.byte c.in-Ok.token at ends token in
    let same = c.new-fresh.ensures ∙ ap fresh place in
    let grows = subst (λ n. IsGrown (fresh (length seen)) c.args.byte (n + 1) c.in-Some.next c.grow-after.result.0 c.grow-after.result.1) place
    (subst (λ p. IsGrown p c.args.byte (c.args.place + 1) c.in-Some.next c.grow-after.result.0 c.grow-after.result.1) same c.grow-after.ensures) in
    settled_as (λ fault ls. IsKept fault source ls c.grow-after.result.0) source lexemes c.settled_tokens-in-Some.result (Some c.in-Ok.token) c.grow-after.result.1 None
    c.settled_tokens-in-Some.ensures.first c.settled_tokens-in-Some.ensures.second c.settled_tokens-in-Some.ensures.fault
    (subst (λ ls. IsAt Any source ls c.grow-after.result.0) (append_assoc lexemes (lexeme_in source c.in-Ok.token ∷ []) (lexemes_in source c.grow-after.result.1))
    (grown seen (lexemes ++ lexeme_in source c.in-Ok.token ∷ []) (fresh (length seen)) c.args.byte before c.in-Some.next c.grow-after.result.0 c.grow-after.result.1 (sym c.in-Some.ensures) grows))
