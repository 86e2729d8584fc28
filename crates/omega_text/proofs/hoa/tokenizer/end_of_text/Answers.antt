-- What the last unit is.
use Rattle.std.proofs.Common.{◌≡◌, false, IfSome, None, Some, sym, subst, ◌∙◌, append-nil}
use Rattle.omega_text.specs.Cut.{IsCut}
use Rattle.omega_text.specs.hoa.Format.{hoa_format}
use Rattle.omega_text.specs.hoa.Laws.{is_closed}
use Rattle.omega_text.specs.hoa.Pieces.{FaultsAfter, IsCutUpToFault}
use Rattle.omega_text.specs.private.hoa.scanning.Unfinished.{IsTokenIn}
use Rattle.omega_text.proofs.hoa_texts.Last.{last_unclosed}
use Rattle.omega_text.proofs.hoa_texts.Pieces.{ends_in_fault, ends_in_gap, ends_in_token, settled_as}
use Rattle.omega_text.proofs.hoa.tokenizer.end_of_text.Goals as goal

pub returns-in-Start-clause-finishes : goal.returns-in-Start-clause-finishes
returns-in-Start-clause-finishes c = λ seen lexemes place at.
    settled_as (λ fault. IsCutUpToFault fault seen) seen lexemes c.settled_tokens.result None None None c.settled_tokens.ensures.first c.settled_tokens.ensures.second c.settled_tokens.ensures.fault
    (subst (IsCut hoa_format seen) (sym (append-nil lexemes)) (ends_in_gap seen lexemes c.args.pending at (sym c.get.ensures ∙ c.in-Start.is)))

pub returns-in-Ok-clause-finishes : goal.returns-in-Ok-clause-finishes
returns-in-Ok-clause-finishes c = λ seen lexemes place at.
    settled_as (λ fault. IsCutUpToFault fault seen) seen lexemes c.settled_tokens-in-Ok.result (Some c.in-Ok.token) None None c.settled_tokens-in-Ok.ensures.first c.settled_tokens-in-Ok.ensures.second c.settled_tokens-in-Ok.ensures.fault
    (ends_in_token seen lexemes c.args.pending at c.in-Ok.token
    (subst (λ n. IsTokenIn c.args.pending.mode c.args.pending.value c.args.pending.start n c.in-Ok.token) place c.in-Ok.ensures.token))

pub returns-in-Err-clause-finishes : goal.returns-in-Err-clause-finishes
returns-in-Err-clause-finishes c = λ seen lexemes place at.
    settled_as (λ fault. IsCutUpToFault fault seen) seen lexemes c.settled_tokens-in-Err.result None None (Some c.in-Err.fault) c.settled_tokens-in-Err.ensures.first c.settled_tokens-in-Err.ensures.second c.settled_tokens-in-Err.ensures.fault
    (subst (λ ls. FaultsAfter seen ls c.in-Err.fault) (sym (append-nil lexemes)) (ends_in_fault seen lexemes c.args.pending at c.in-Err.fault (λ start. c.in_default.not-Start (c.get.ensures ∙ start)) c.in-Err.ensures.fault))

pub returns-in-Ok-clause-unclosed : goal.returns-in-Ok-clause-unclosed
returns-in-Ok-clause-unclosed c = λ seen lexemes at.
    subst (λ first. IfSome first (λ token. is_closed token.kind ≡ false)) (sym c.settled_tokens-in-Ok.ensures.first)
    (last_unclosed c.args.pending.mode c.args.pending.value c.args.pending.start c.args.place c.in-Ok.token at.begun at.reached c.in-Ok.ensures.token)
