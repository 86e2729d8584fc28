-- `HOA:` begins a segment if none is open, and no other token does.
use Rattle.std.proofs.Common.{◌∙◌, sym, inr, refl, arith, true, false, ◌≡◌}
use Rattle.omega_hoa.proofs.Results.{nothing_more}
use Rattle.omega_hoa.proofs.Taking.{begun, next_place, next_text, next_within, stray}
use Rattle.omega_hoa.proofs.division.begin_segment.Goals as goal

pub stretch-requires : goal.stretch-requires
stretch-requires c =
    let some = c.requires.next in
    let place = next_place c.goes_on_one_way.ensures c.args.bytes.now c.args.first c.args.division c.args.token some.0 some.1 some.2 some.3 in
    record {
      from = omega (arith, place.0, some.3.from);
      forward = place.1;
      within = next_within c.goes_on_one_way.ensures c.args.bytes.now c.args.first c.args.division c.args.token some.0 some.1 some.2 some.3;
    }

pub returns-then-opens-clause-taken : goal.returns-then-opens-clause-taken
returns-then-opens-clause-taken c = λ out seen lexemes items next.
    let is = c.if-opens.ensures.0 refl in
    nothing_more _ _ _
    (begun c.goes_on_one_way.ensures c.args.bytes.now c.args.first c.args.division c.args.token seen lexemes items next c.requires.outside
    (record { kind = is.0; text = sym (next_text c.goes_on_one_way.ensures c.args.bytes.now c.args.first c.args.division c.args.token seen lexemes items next) ∙ sym c.stretch.ensures ∙ is.1 }))

-- the two truth values differ
apart : false ≡ true → ⊥
apart is = cc

pub returns-else-opens-clause-refused : goal.returns-else-opens-clause-refused
returns-else-opens-clause-refused c = λ seen lexemes items next. inr
    (stray c.goes_on_one_way.ensures c.args.bytes.now c.args.first c.args.division c.args.token seen lexemes items next c.requires.outside
    (λ opens. apart (c.if-opens.ensures.1 (
      opens.kind,
      c.stretch.ensures
          ∙ next_text c.goes_on_one_way.ensures c.args.bytes.now c.args.first c.args.division c.args.token seen lexemes items next ∙ opens.text,
    ))))
