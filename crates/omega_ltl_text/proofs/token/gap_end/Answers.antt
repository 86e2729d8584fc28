-- One white byte more, up to the first that is black.
use Rattle.std.proofs.Common.{sym, ◌∙◌, arith}
use Rattle.omega_text.proofs.pg_texts.Gaps.{gap_more, no_gap}
use Rattle.omega_ltl_text.proofs.token.gap_end.Goals as goal

pub loop-end-init : goal.loop-end-init
loop-end-init c = no_gap c.args.source.now c.args.from c.requires

pub loop-end-preserved : goal.loop-end-preserved
loop-end-preserved c =
    gap_more c.args.source.now c.args.from c.loop-end.end c.loop-end.invariant (omega (arith, c.loop-end-test.true)) (sym c.is_white.ensures ∙ c.if-not-is_white.false)
