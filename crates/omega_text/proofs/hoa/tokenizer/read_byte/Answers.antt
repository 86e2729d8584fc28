-- The unit with one byte more.
use Rattle.std.proofs.Common.{◌+◌, [], ◌++◌, ◌∷◌, None, sym, subst, arith}
use Rattle.omega_text.specs.private.hoa.scanning.Reading.{IsKept}
use Rattle.omega_text.specs.private.hoa.scanning.Unfinished.{IsGrown}
use Rattle.omega_text.proofs.hoa_texts.Pieces.{at_with, grown, mode_within, parts, settled_as}
use Rattle.omega_text.proofs.hoa.tokenizer.read_byte.Goals as goal

pub next-requires : goal.next-requires
next-requires c =
    let way = c.requires in
    mode_within way.0 way.1 c.args.pending 18446744073709551615 way.3 (omega (arith, way.2, way.4))

pub grow-token-requires : goal.grow-token-requires
grow-token-requires c =
    let way = c.requires in
    let at = way.3 in
    omega (arith, way.2, parts way.0 at.gap at.begun at.end c.args.pending.start at.split at.within at.start)

pub returns-in-Some : goal.returns-in-Some
returns-in-Some c = λ seen lexemes place at.
    let source = seen ++ c.args.byte ∷ [] in
    settled_as (λ fault ls. IsKept fault source ls c.grow-token.result.0) source lexemes c.settled_tokens.result None c.grow-token.result.1 None
    c.settled_tokens.ensures.first c.settled_tokens.ensures.second c.settled_tokens.ensures.fault
    (grown seen lexemes c.args.pending c.args.byte (at_with seen lexemes c.args.pending c.args.byte at) c.in-Some.next c.grow-token.result.0 c.grow-token.result.1 (sym c.in-Some.ensures)
    (subst (λ n. IsGrown c.args.pending c.args.byte (n + 1) c.in-Some.next c.grow-token.result.0 c.grow-token.result.1) place c.grow-token.ensures))
