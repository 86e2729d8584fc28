-- Inside a segment, a token is one more or ends it.
use Rattle.std.proofs.Common.{◌∷◌, [], ◌++◌, ◌∙◌, append-nil, sym, subst, arith}
use Rattle.omega_text.specs.hoa.Pieces.{lexeme_in}
use Rattle.omega_hoa.specs.Feeding.{IsDivided}
use Rattle.omega_hoa.proofs.Results.{nothing_more}
use Rattle.omega_hoa.proofs.Taking.{closed, gone_on, next_place}
use Rattle.omega_hoa.proofs.division.take_inside.Goals as goal

pub returns-in-None-clause-taken : goal.returns-in-None-clause-taken
returns-in-None-clause-taken c = λ seen lexemes items next.
    nothing_more _ _ _
    (subst (λ inside. IsDivided seen (lexemes ++ lexeme_in seen c.args.token ∷ []) items c.args.division.begins inside) (sym c.requires.inside)
    (gone_on c.goes_on_one_way.ensures c.args.bytes.now c.args.first c.args.division c.args.token seen lexemes items next c.requires.inside
    (rw c.in-None.is at c.in_ok-item_at.ensures.none)))

pub returns-in_ok-push-in-Some-clause-taken : goal.returns-in_ok-push-in-Some-clause-taken
returns-in_ok-push-in-Some-clause-taken c = λ seen lexemes items next.
    let of = rw c.in-Some.is at c.in_ok-item_at.ensures.item in
    record {
      added = c.in-Some.item ∷ [];
      is = c.in_ok-push-in-Some.ensures.items;
      holds = closed c.goes_on_one_way.ensures c.args.bytes.now c.args.first c.args.division c.args.token seen lexemes items next c.in-Some.item (of seen lexemes items next);
    }

pub returns-in_ok-push-in-Some-clause-forward : goal.returns-in_ok-push-in-Some-clause-forward
returns-in_ok-push-in-Some-clause-forward c =
    let some = c.requires.next in
    let place = next_place c.goes_on_one_way.ensures c.args.bytes.now c.args.first c.args.division c.args.token some.0 some.1 some.2 some.3 in
    omega (arith, place.0, place.1)

pub returns-in_err-push-in-Some-clause-extends : goal.returns-in_err-push-in-Some-clause-extends
returns-in_err-push-in-Some-clause-extends c = ([], c.in_err-push-in-Some.ensures.items ∙ sym (append-nil c.args.out.now.items))
