-- The item of the segment that a token ends.
use Rattle.std.proofs.Common.{◌∷◌, [], ◌++◌, map, sym, subst, arith}
use Rattle.omega_text.specs.Cut.{IsCut}
use Rattle.omega_text.specs.hoa.Format.{hoa_format}
use Rattle.omega_text.specs.hoa.Pieces.{lexeme_in}
use Rattle.omega_hoa.specs.private.Places.{IsPartFault}
use Rattle.omega_hoa.proofs.Cutting.{moved}
use Rattle.omega_hoa.proofs.Results.{error_then}
use Rattle.omega_hoa.proofs.Taking.{automaton_item, next_place, next_within, segment_cut, segment_refused}
use Rattle.omega_hoa.proofs.division.item_at.Goals as goal

pub stretch-requires-clause-forward : goal.stretch-requires-clause-forward
stretch-requires-clause-forward c =
    let some = c.requires.next in
    let place = next_place c.goes_on_one_way.ensures c.args.bytes.now c.args.first c.args.division c.args.token some.0 some.1 some.2 some.3 in
    omega (arith, place.0, place.1)

pub stretch-requires-clause-within : goal.stretch-requires-clause-within
stretch-requires-clause-within c =
    let some = c.requires.next in
    next_within c.goes_on_one_way.ensures c.args.bytes.now c.args.first c.args.division c.args.token some.0 some.1 some.2 some.3

pub read_segment-requires-clause-cut : goal.read_segment-requires-clause-cut
read_segment-requires-clause-cut c =
    let some = c.requires.next in
    let all = some.3.divided.rest ++ lexeme_in some.0 c.args.token ∷ [] in (
      map (moved c.args.division.begins) all,
      subst (λ bytes. IsCut hoa_format bytes (map (moved c.args.division.begins) all)) (sym c.stretch.ensures)
          (segment_cut c.goes_on_one_way.ensures c.args.bytes.now c.args.first c.args.division c.args.token some.0 some.1 some.2 some.3),
    )

pub returns-in_err-automaton-in-End-clause-refused : goal.returns-in_err-automaton-in-End-clause-refused
returns-in_err-automaton-in-End-clause-refused c =
    error_then c.from_residual.result _ _ c.from_residual.ensures.1
    (λ error is seen lexemes items next.
    segment_refused c.goes_on_one_way.ensures c.args.bytes.now c.args.first c.args.division c.args.token seen lexemes items next error c.requires.inside c.in-End.is
    (λ ls cut segment. subst (IsPartFault c.args.division.begins ls) (sym is)
    (c.in_err-automaton-in-End.ensures.refused ls (subst (λ bytes. IsCut hoa_format bytes ls) (sym c.stretch.ensures) cut) segment)))

pub returns-in_ok-automaton-in-End-clause-item : goal.returns-in_ok-automaton-in-End-clause-item
returns-in_ok-automaton-in-End-clause-item c = λ seen lexemes items next.
    automaton_item c.goes_on_one_way.ensures c.args.bytes.now c.args.first c.args.division c.args.token seen lexemes items next c.in_ok-automaton-in-End.automaton c.requires.inside c.in-End.is
    (λ ls cut segment. c.in_ok-automaton-in-End.ensures.automaton ls (subst (λ bytes. IsCut hoa_format bytes ls) (sym c.stretch.ensures) cut) segment)
