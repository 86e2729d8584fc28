-- strings that are the same one by one
use Rattle.std.proofs.Common.{◌∙◌, sym}
use Rattle.std.specs.Cmp.Lexicographic.{bytes_decides, pointwise_decides}
use Rattle.omega_ltl_deterministic.proofs.judging.are_same.Goals as goal

pub returns : goal.returns
returns c h = (pointwise_decides bytes_decides c.args.one.now c.args.other.now).0 (sym c.eq.ensures ∙ h)
