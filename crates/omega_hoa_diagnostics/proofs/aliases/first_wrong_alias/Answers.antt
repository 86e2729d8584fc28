-- `first_wrong_alias`: the first mention that is wrong after those before it.
use Rattle.std.proofs.Common.{◌≡◌, true, false, [], map, rules}
use Rattle.omega_hoa_diagnostics.specs.Aliases.{first_wrong_alias}
use Rattle.omega_hoa_diagnostics.specs.private.AliasReading.{as_said, names_in}
use Rattle.omega_hoa_diagnostics.proofs.Mentions.{wrong_here, wrong_later}
use Rattle.omega_hoa_diagnostics.proofs.aliases.first_wrong_alias.Goals as goal

pub returns-then-branch-clause-first : goal.returns-then-branch-clause-first
returns-then-branch-clause-first c =
    let wrong : c.in_ok-is_wrong.field-0 ≡ true = search rules in
    wrong_here c.args.mentions.now (names_in c.loop-mention.names.keys) c.loop-mention.mention-index _ c.in_ok-is_wrong.field-0
    (first_wrong_alias [] (map as_said c.args.mentions.now)) c.loop-mention-test.true c.in_ok-is_wrong.ensures.wrong wrong c.loop-mention.invariant

pub loop-mention-preserved : goal.loop-mention-preserved
loop-mention-preserved c =
    let sound : c.in_ok-is_wrong.field-0 ≡ false = search rules in
    wrong_later c.args.mentions.now (names_in c.loop-mention.names.keys) (names_in c.is_wrong.new.names.keys) c.loop-mention.mention-index _ c.in_ok-is_wrong.field-0
    (first_wrong_alias [] (map as_said c.args.mentions.now)) c.loop-mention-test.true c.in_ok-is_wrong.ensures.wrong sound
    (c.in_ok-is_wrong.ensures.names sound) c.loop-mention.invariant
