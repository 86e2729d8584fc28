-- `read_aliases`: no token is left, so that all were read.
use Rattle.std.proofs.Common.{◌≡◌, [], ap, sym, ◌∙◌, rules}
use Rattle.omega_hoa_diagnostics.specs.private.AliasReading.{run}
use Rattle.omega_hoa_diagnostics.proofs.reading.Rows.{text_is_said}
use Rattle.omega_hoa_diagnostics.proofs.aliases.read_aliases.Goals as goal

pub returns-clause-said : goal.returns-clause-said
returns-clause-said c = λ raw writes.
    let ended : c.loop-token.tokens.0 ≡ [] = search rules in
    text_is_said c.args.text.now c.new-tokens.result.0 c.new-reading.result c.loop-token.reading c.cuts_are_one.ensures c.new-tokens.ensures.cut
    c.new-reading.ensures (sym (ap (run c.loop-token.reading) ended) ∙ c.loop-token.invariant) raw writes
