-- The tokens that are left at the start are the cut.
use Rattle.std.proofs.Common.{None, Some, refl, ◌∙◌, sym, subst}
use Rattle.omega_text.specs.Cut.{IsCut}
use Rattle.omega_text.specs.private.Left.{Left}
use Rattle.omega_text.specs.Lexeme.{lexeme_of}
use Rattle.omega_text.proofs.formats.Lefts.{cut_is_rest, left_is, place_none, place_some}
use Rattle.omega_text.proofs.text_cursor.TextCursor.new.Goals as goal

pub invariant_of-t-4 : goal.invariant_of-t-4
invariant_of-t-4 g c =
    let left : Left g.K.TokenKind.format c.args.source.now (Some (lexeme_of c.in-Some.token)) = record {
      lexemes = c.requires.cut.0;
      all_left = ∣ c.in-Some.ensures c.requires.cut.0 (cut_is_rest _ _ _ c.requires.cut.1) ∣₁;
    } in
    (left, (place_some _ _ g.row.K.coded _ left _ _ refl, tt))

pub invariant_of-result : goal.invariant_of-result
invariant_of-result g c =
    let left : Left g.K.TokenKind.format c.args.source.now None = record {
      lexemes = c.requires.cut.0;
      all_left = ∣ c.in-None.ensures c.requires.cut.0 (cut_is_rest _ _ _ c.requires.cut.1) ∣₁;
    } in
    (left, (c.end_of.ensures.start ∙ place_none _ _ g.row.K.coded _ left _ refl, tt))

pub returns-in-Some-clause-cut : goal.returns-in-Some-clause-cut
returns-in-Some-clause-cut g c =
    let all = c.in-Some.ensures c.requires.cut.0 (cut_is_rest _ _ _ c.requires.cut.1) in
    subst (IsCut g.K.TokenKind.format c.args.source.now) (sym (left_is _ _ g.row.K.coded _ c.t4-1.given.0 _ all.are_left)) c.requires.cut.1

pub returns-in-None-clause-cut : goal.returns-in-None-clause-cut
returns-in-None-clause-cut g c =
    let all = c.in-None.ensures c.requires.cut.0 (cut_is_rest _ _ _ c.requires.cut.1) in
    subst (IsCut g.K.TokenKind.format c.args.source.now) (sym (left_is _ _ g.row.K.coded _ c.result-1.given.0 _ all.are_left)) c.requires.cut.1
