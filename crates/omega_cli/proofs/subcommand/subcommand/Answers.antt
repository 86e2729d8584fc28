-- `subcommand`: an option that is added is the next of those that are left.
use Rattle.std.proofs.Common.{◌≡◌, ◌+◌, ◌∙◌, List, ap, drop, map, rules, sym}
use Rattle.std.proofs.lemmas.List.{at_drop_more}
use Rattle.clap.specs.Words.{App, app_of, new_app, with_rule}
use Rattle.omega_cli.specs.private.building.Building.{rule_for, with_rules}
use Rattle.omega_cli.specs.declared.options.OptionHelp.{OptionHelp}
use Rattle.omega_cli.proofs.Adding.{rules_added}
use Rattle.omega_cli.proofs.subcommand.subcommand.Goals as goal

pub loop-option-init : goal.loop-option-init
loop-option-init c =
    let start : app_of c.after_long_help-command.result ≡ new_app c.args.name.now = search rules in
    rw start (rules_added (new_app c.args.name.now) (map rule_for c.args.options.now))

pub loop-option-preserved : goal.loop-option-preserved
loop-option-preserved c =
    let added = c.in_ok-command.ensures.shape c.arg.ensures.local in
    ap (λ (app : App). (with_rules app (map rule_for (drop (c.loop-option.option-index + 1) c.args.options.now))).top)
    (added ∙ ap (with_rule (app_of c.loop-option.command)) c.arg.ensures.rule)
    ∙ sym (at_drop_more (λ (rest : List OptionHelp). (with_rules (app_of c.loop-option.command) (map rule_for rest)).top)
    c.args.options.now c.loop-option.option-index _ c.loop-option-test.true)
    ∙ c.loop-option.invariant
