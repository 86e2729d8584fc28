-- The gap grows, part by part, until a token follows.
use Rattle.std.proofs.Common.{◌++◌, drop, take, sym, subst, arith, length-drop, None, Some}
use Rattle.omega_text.specs.Lexeme.{lexeme_at}
use Rattle.omega_text.specs.hoa.Cut.{Follows}
use Rattle.omega_text.specs.private.hoa.scanning.Modes.{IsFirstUnit}
use Rattle.omega_text.proofs.hoa_texts.Gaps.{blank_passed, blank_place, blank_split, gap_here, unit_follows}
use Rattle.omega_text.proofs.hoa.token.next_after.Goals as goal

pub loop-start-init : goal.loop-start-init
loop-start-init c = gap_here c.args.source.now c.args.at c.requires

pub returns-in-Some-clause-token : goal.returns-in-Some-clause-token
returns-in-Some-clause-token c =
    let before = c.loop-start.invariant in
    let bytes = drop c.loop-start.start c.args.source.now in
    let unit = subst (λ kind. IsFirstUnit c.tail-bytes.result.now kind c.in_ok-unit.unit.value c.in_ok-unit.unit.count) c.in-Some.is c.in_ok-unit.ensures.unit in
    let there : IsFirstUnit bytes (Some c.in-Some.kind) c.in_ok-unit.unit.value c.in_ok-unit.unit.count = subst (λ bs. IsFirstUnit bs (Some c.in-Some.kind) c.in_ok-unit.unit.value c.in_ok-unit.unit.count) c.tail-bytes.ensures unit in
    subst (Follows c.args.source.now c.args.at) (sym c.front_token-token.ensures)
    (subst (λ bs. Follows c.args.source.now c.args.at (lexeme_at c.loop-start.start c.in-Some.kind c.in_ok-unit.unit.value (take c.in_ok-unit.unit.count bs))) (sym c.tail-bytes.ensures)
    (unit_follows c.args.source.now before.gap c.args.at c.loop-start.start before.split before.passed before.place c.in-Some.kind c.in_ok-unit.unit.value c.in_ok-unit.unit.count there))

pub loop-start-preserved : goal.loop-start-preserved
loop-start-preserved c =
    let before = c.loop-start.invariant in
    let bytes = drop c.loop-start.start c.args.source.now in
    let value = c.in_ok-unit.unit.value in
    let count = c.in_ok-unit.unit.count in
    let unit = subst (λ kind. IsFirstUnit c.tail-bytes.result.now kind value count) c.in-None.is c.in_ok-unit.ensures.unit in
    let there : IsFirstUnit bytes None value count = subst (λ bs. IsFirstUnit bs None value count) c.tail-bytes.ensures unit in
    let size = length-drop c.loop-start.start c.args.source.now in
    let inside = there.within in
    record {
      gap = before.gap ++ take count bytes;
      split = blank_split c.args.source.now before.gap c.args.at c.loop-start.start before.split before.passed before.place count;
      passed = blank_passed c.args.source.now before.gap c.args.at c.loop-start.start before.split before.passed before.place value count there;
      place = blank_place c.args.source.now before.gap c.args.at c.loop-start.start before.split before.passed before.place count inside;
      within = omega arith;
    }
