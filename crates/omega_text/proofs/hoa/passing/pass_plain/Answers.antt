-- From the start of a unit, or not at all.
use Rattle.std.proofs.Common.{sym, ◌∙◌}
use Rattle.omega_text.proofs.hoa_texts.Passing.{passes_none, started}
use Rattle.omega_text.proofs.hoa.passing.pass_plain.Goals as goal

pub returns-in-Start : goal.returns-in-Start
returns-in-Start c =
    started c.args.start c.args.bytes.now c.args.from c.pass_simple.result.1 c.args.pending c.pass_simple.result.0 (sym c.get.ensures ∙ c.in-Start.is) c.pass_simple.ensures

pub returns-in_default : goal.returns-in_default
returns-in_default c = passes_none c.args.start c.args.bytes.now c.args.from c.args.pending c.requires.within
