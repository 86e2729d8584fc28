-- What a fault leaves.
use Rattle.std.proofs.Common.{None, Some, sym, subst, append-nil}
use Rattle.omega_text.specs.hoa.Pieces.{FaultsAfter, IsCutUpToFault}
use Rattle.omega_text.specs.private.hoa.scanning.Reading.{IsKept}
use Rattle.omega_text.proofs.hoa_texts.Pieces.{ends_in_settled_fault, settled_as}
use Rattle.omega_text.proofs.hoa.tokenizer.HoaTokenizerByteTokenizer.finish.Goals as goal

pub returns-in-Some-clause-finishes : goal.returns-in-Some-clause-finishes
returns-in-Some-clause-finishes c = λ seen lexemes read.
    let kept = subst (λ fault. IsKept fault seen lexemes c.args.self.now.pending) c.in-Some.is read.kept in
    settled_as (λ fault. IsCutUpToFault fault seen) seen lexemes c.settled_tokens.result None None (Some c.in-Some.fault) c.settled_tokens.ensures.first c.settled_tokens.ensures.second c.settled_tokens.ensures.fault
    (subst (λ ls. FaultsAfter seen ls c.in-Some.fault) (sym (append-nil lexemes)) (ends_in_settled_fault seen lexemes c.in-Some.fault kept))
