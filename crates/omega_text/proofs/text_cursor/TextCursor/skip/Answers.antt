-- After the first of the tokens that are left the others are left.
use Rattle.std.proofs.Common.{Some, drop, ap, refl, ◌∙◌, sym}
use Rattle.std.proofs.Math.Logic.{∥∥₁_map}
use Rattle.omega_text.specs.private.Left.{Left}
use Rattle.omega_text.specs.Lexeme.{lexeme_of}
use Rattle.omega_text.proofs.formats.Lefts.{left_known, parts_after, parts_none, parts_within, place_some}
use Rattle.omega_text.proofs.text_cursor.TextCursor.skip.Goals as goal

pub returns-in_default-clause-left : goal.returns-in_default-clause-left
returns-in_default-clause-left g c =
    let empty = parts_none _ _ g.row.K.coded _ _ _ _ c.self.inside.left c.in_default.is in
    rw (← c.self.view_is) (empty ∙ sym (ap (drop 1) empty))

pub plain_left-requires : goal.plain_left-requires
plain_left-requires g c = parts_within _ _ g.row.K.coded _ _ _ _ c.self.inside.left _ c.in-Some.is

pub invariant_of-self-inside : goal.invariant_of-self-inside
invariant_of-self-inside g c =
    let left : Left g.K.TokenKind.format c.self.inside.source.now (Some (lexeme_of c.in-Some-plain_left.token)) = record {
      lexemes = drop 1 c.self.inside.left.lexemes;
      all_left = ∥∥₁_map (parts_after _ _ g.row.K.coded _ _ _ _ c.self.inside.left _ c.in-Some.is) (λ rest. c.in-Some-plain_left.ensures _ rest);
    } in
    (left, (place_some _ _ g.row.K.coded _ left _ _ refl, tt))

pub returns-in-Some-plain_left-clause-left : goal.returns-in-Some-plain_left-clause-left
returns-in-Some-plain_left-clause-left g c =
    rw (← c.self.view_is)
    (left_known _ _ g.row.K.coded _ c.self-in-Some-plain_left-2-1.given.0 (drop 1 c.self.inside.left.lexemes)
    (∥∥₁_map (parts_after _ _ g.row.K.coded _ _ _ _ c.self.inside.left _ c.in-Some.is) (λ rest. (c.in-Some-plain_left.ensures _ rest).are_left)))
