-- The token comes after the white bytes.
use Rattle.std.proofs.Common.{take, sym, ◌∙◌, subst, Some}
use Rattle.omega_text.specs.Lexeme.{lexeme_at}
use Rattle.omega_text.specs.hoa.Cut.{Follows}
use Rattle.omega_text.specs.private.hoa.scanning.Modes.{IsFirstUnit}
use Rattle.omega_text.proofs.hoa_texts.Gaps.{gap_here, unit_follows, white_more}
use Rattle.omega_text.proofs.hoa.token.plain_hoa_token.Goals as goal

pub loop-start-init : goal.loop-start-init
loop-start-init c = gap_here c.args.source.now c.args.at c.requires

pub loop-start-preserved : goal.loop-start-preserved
loop-start-preserved c =
    white_more c.args.source.now c.args.at c.loop-start.start c.loop-start.invariant c.loop-start-test.true (sym c.is_white.ensures ∙ c.if-is_white.true)

pub returns-in-loop-start-clause-token : goal.returns-in-loop-start-clause-token
returns-in-loop-start-clause-token c =
    let before = c.loop-start.invariant in
    let start = c.loop-start.start in
    let kind = c.in_ok-kind.kind in
    let value = c.in_ok-unit.unit.value in
    let count = c.in_ok-unit.unit.count in
    let unit = subst (λ sort. IsFirstUnit c.tail-bytes.result.now sort value count) c.in_ok-kind.was c.in_ok-unit.ensures in
    let there = subst (λ bs. IsFirstUnit bs (Some kind) value count) c.tail-bytes.ensures unit in
    subst (Follows c.args.source.now c.args.at) (sym c.front_token.ensures)
    (subst (λ bs. Follows c.args.source.now c.args.at (lexeme_at start kind value (take count bs))) (sym c.tail-bytes.ensures)
    (unit_follows c.args.source.now before.gap c.args.at start before.split before.passed before.place kind value count there))
