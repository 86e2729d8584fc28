-- What was read and settled before, with one byte more.
use Rattle.std.proofs.Common.{[], ◌++◌, ◌∷◌, None, Some, sym, subst, ◌∙◌, arith, append-nil, length-append}
use Rattle.omega_text.specs.hoa.Pieces.{IsSettled, SettlesFault, settled_lexemes}
use Rattle.omega_text.specs.private.hoa.scanning.Reading.{IsKept}
use Rattle.omega_text.proofs.hoa_texts.Pieces.{fault_stays, kept_settled, settled_as}
use Rattle.omega_text.proofs.hoa.tokenizer.HoaTokenizerByteTokenizer.step.Goals as goal

pub returns-in-Some-clause-reads : goal.returns-in-Some-clause-reads
returns-in-Some-clause-reads c = λ seen lexemes read.
    let source = seen ++ c.args.byte ∷ [] in
    let kept = subst (λ fault. IsKept fault seen lexemes c.args.self.now.pending) c.in-Some.is read.kept in
    record {
      place = omega (arith, read.place, length-append seen (c.args.byte ∷ []));
      kept = subst (λ fault. IsKept fault source (lexemes ++ settled_lexemes source c.settled_tokens.result) c.args.self.now.pending) (c.settled_tokens.ensures.fault ∙ sym c.in-Some.is)
          (settled_as (λ fault ls. IsKept fault source ls c.args.self.now.pending) source lexemes c.settled_tokens.result None None (Some c.in-Some.fault)
          c.settled_tokens.ensures.first c.settled_tokens.ensures.second c.settled_tokens.ensures.fault
          (subst (λ ls. SettlesFault source ls c.in-Some.fault) (sym (append-nil lexemes)) (fault_stays seen lexemes c.args.byte c.in-Some.fault kept)));
    }

pub returns-in-Some-clause-settles : goal.returns-in-Some-clause-settles
returns-in-Some-clause-settles c = λ seen lexemes read.
    let kept = subst (λ fault. IsKept fault seen lexemes c.args.self.now.pending) c.in-Some.is read.kept in
    settled_as (λ fault ls. IsSettled fault (seen ++ c.args.byte ∷ []) ls) (seen ++ c.args.byte ∷ []) lexemes c.settled_tokens.result None None (Some c.in-Some.fault)
    c.settled_tokens.ensures.first c.settled_tokens.ensures.second c.settled_tokens.ensures.fault
    (subst (λ ls. SettlesFault (seen ++ c.args.byte ∷ []) ls c.in-Some.fault) (sym (append-nil lexemes)) (fault_stays seen lexemes c.args.byte c.in-Some.fault kept))

pub returns-in-None-clause-settles : goal.returns-in-None-clause-settles
returns-in-None-clause-settles c = λ seen lexemes read.
    let source = seen ++ c.args.byte ∷ [] in
    let kept = subst (λ fault. IsKept fault seen lexemes c.args.self.now.pending) c.in-None.is read.kept in
    kept_settled c.read_byte-pending.result.1.fault source (lexemes ++ settled_lexemes source c.read_byte-pending.result.1) c.read_byte-pending.result.0 (c.read_byte-pending.ensures seen lexemes read.place kept)

pub returns-in-None-clause-reads : goal.returns-in-None-clause-reads
returns-in-None-clause-reads c = λ seen lexemes read.
    let kept = subst (λ fault. IsKept fault seen lexemes c.args.self.now.pending) c.in-None.is read.kept in
    record {
      place = omega (arith, read.place, length-append seen (c.args.byte ∷ []));
      kept = c.read_byte-pending.ensures seen lexemes read.place kept;
    }
