-- What is read with a header is what was written there.
use Rattle.std.proofs.Common.{ap, refl, sym, ◌∙◌}
use Rattle.omega_hoa_syntax.proofs.ContentLemmas.{item_found, item_given, no_format, no_state, none_found, unheaded, unknown_found, unknown_given}
use Rattle.omega_hoa_syntax.proofs.StepLemmas.{finds_error}
use Rattle.omega_hoa_syntax.specs.Grammar.{item_row, header_named}
use Rattle.omega_hoa_syntax.specs.declared.header.name.HeaderKind.TheVariants as named
use Rattle.omega_hoa_syntax.proofs.header.content.content.Goals as goal

pub returns-in_err-token-clause-finds : goal.returns-in_err-token-clause-finds
returns-in_err-token-clause-finds g c =
    finds_error c.from_residual.result _ item_row _ _ (g.S.TokenSource.left c.take_kind.new.source) _ _ _ _ c.from_residual.ensures.1 refl (unheaded _ _ _ c.in_err-token.ensures.err) (λ tokens none. none) (λ before begun. begun)

pub returns-in-Format-clause-finds : goal.returns-in-Format-clause-finds
returns-in-Format-clause-finds g c =
    none_found named.Format _ _ _ _ _ c.in_ok-token.ensures.ok.0 (ap header_named (sym c.without_colon-name.ensures) ∙ (sym c.of_name.ensures ∙ c.in-Format.is)) no_format c.place-at.ensures

pub returns-in-State-clause-finds : goal.returns-in-State-clause-finds
returns-in-State-clause-finds g c =
    none_found named.State _ _ _ _ _ c.in_ok-token.ensures.ok.0 (ap header_named (sym c.without_colon-name.ensures) ∙ (sym c.of_name.ensures ∙ c.in-State.is)) no_state c.place-at.ensures

pub returns-in-States-clause-gives : goal.returns-in-States-clause-gives
returns-in-States-clause-gives g c =
    item_given named.States _ _ _ _ c.state_count.result c.in_ok-token.ensures.ok.0 c.in_ok-token.ensures.ok.1
    (ap header_named (sym c.without_colon-name.ensures) ∙ (sym c.of_name.ensures ∙ c.in-States.is)) tt c.state_count.ensures.gives

pub returns-in-States-clause-finds : goal.returns-in-States-clause-finds
returns-in-States-clause-finds g c =
    item_found named.States _ _ _ _ _ _ c.state_count.result c.in_ok-token.ensures.ok.0 c.in_ok-token.ensures.ok.1 c.in_ok-token.ensures.length
    (ap header_named (sym c.without_colon-name.ensures) ∙ (sym c.of_name.ensures ∙ c.in-States.is)) tt c.state_count.ensures.finds

pub returns-in-Start-clause-gives : goal.returns-in-Start-clause-gives
returns-in-Start-clause-gives g c =
    item_given named.Start _ _ _ _ c.start.result c.in_ok-token.ensures.ok.0 c.in_ok-token.ensures.ok.1
    (ap header_named (sym c.without_colon-name.ensures) ∙ (sym c.of_name.ensures ∙ c.in-Start.is)) tt c.start.ensures.gives

pub returns-in-Start-clause-finds : goal.returns-in-Start-clause-finds
returns-in-Start-clause-finds g c =
    item_found named.Start _ _ _ _ _ _ c.start.result c.in_ok-token.ensures.ok.0 c.in_ok-token.ensures.ok.1 c.in_ok-token.ensures.length
    (ap header_named (sym c.without_colon-name.ensures) ∙ (sym c.of_name.ensures ∙ c.in-Start.is)) tt c.start.ensures.finds

pub returns-in-Propositions-clause-gives : goal.returns-in-Propositions-clause-gives
returns-in-Propositions-clause-gives g c =
    item_given named.Propositions _ _ _ _ c.propositions.result c.in_ok-token.ensures.ok.0 c.in_ok-token.ensures.ok.1
    (ap header_named (sym c.without_colon-name.ensures) ∙ (sym c.of_name.ensures ∙ c.in-Propositions.is)) tt c.propositions.ensures.gives

pub returns-in-Propositions-clause-finds : goal.returns-in-Propositions-clause-finds
returns-in-Propositions-clause-finds g c =
    item_found named.Propositions _ _ _ _ _ _ c.propositions.result c.in_ok-token.ensures.ok.0 c.in_ok-token.ensures.ok.1 c.in_ok-token.ensures.length
    (ap header_named (sym c.without_colon-name.ensures) ∙ (sym c.of_name.ensures ∙ c.in-Propositions.is)) tt c.propositions.ensures.finds

pub returns-in-Alias-clause-gives : goal.returns-in-Alias-clause-gives
returns-in-Alias-clause-gives g c =
    item_given named.Alias _ _ _ _ c.alias.result c.in_ok-token.ensures.ok.0 c.in_ok-token.ensures.ok.1
    (ap header_named (sym c.without_colon-name.ensures) ∙ (sym c.of_name.ensures ∙ c.in-Alias.is)) tt c.alias.ensures.gives

pub returns-in-Alias-clause-finds : goal.returns-in-Alias-clause-finds
returns-in-Alias-clause-finds g c =
    item_found named.Alias _ _ _ _ _ _ c.alias.result c.in_ok-token.ensures.ok.0 c.in_ok-token.ensures.ok.1 c.in_ok-token.ensures.length
    (ap header_named (sym c.without_colon-name.ensures) ∙ (sym c.of_name.ensures ∙ c.in-Alias.is)) tt c.alias.ensures.finds

pub returns-in-Acceptance-clause-gives : goal.returns-in-Acceptance-clause-gives
returns-in-Acceptance-clause-gives g c =
    item_given named.Acceptance _ _ _ _ c.acceptance.result c.in_ok-token.ensures.ok.0 c.in_ok-token.ensures.ok.1
    (ap header_named (sym c.without_colon-name.ensures) ∙ (sym c.of_name.ensures ∙ c.in-Acceptance.is)) tt c.acceptance.ensures.gives

pub returns-in-Acceptance-clause-finds : goal.returns-in-Acceptance-clause-finds
returns-in-Acceptance-clause-finds g c =
    item_found named.Acceptance _ _ _ _ _ _ c.acceptance.result c.in_ok-token.ensures.ok.0 c.in_ok-token.ensures.ok.1 c.in_ok-token.ensures.length
    (ap header_named (sym c.without_colon-name.ensures) ∙ (sym c.of_name.ensures ∙ c.in-Acceptance.is)) tt c.acceptance.ensures.finds

pub returns-in-AccName-clause-gives : goal.returns-in-AccName-clause-gives
returns-in-AccName-clause-gives g c =
    item_given named.AccName _ _ _ _ c.acc_name.result c.in_ok-token.ensures.ok.0 c.in_ok-token.ensures.ok.1
    (ap header_named (sym c.without_colon-name.ensures) ∙ (sym c.of_name.ensures ∙ c.in-AccName.is)) tt c.acc_name.ensures.gives

pub returns-in-AccName-clause-finds : goal.returns-in-AccName-clause-finds
returns-in-AccName-clause-finds g c =
    item_found named.AccName _ _ _ _ _ _ c.acc_name.result c.in_ok-token.ensures.ok.0 c.in_ok-token.ensures.ok.1 c.in_ok-token.ensures.length
    (ap header_named (sym c.without_colon-name.ensures) ∙ (sym c.of_name.ensures ∙ c.in-AccName.is)) tt c.acc_name.ensures.finds

pub returns-in-Tool-clause-gives : goal.returns-in-Tool-clause-gives
returns-in-Tool-clause-gives g c =
    item_given named.Tool _ _ _ _ c.tool.result c.in_ok-token.ensures.ok.0 c.in_ok-token.ensures.ok.1
    (ap header_named (sym c.without_colon-name.ensures) ∙ (sym c.of_name.ensures ∙ c.in-Tool.is)) tt c.tool.ensures.gives

pub returns-in-Tool-clause-finds : goal.returns-in-Tool-clause-finds
returns-in-Tool-clause-finds g c =
    item_found named.Tool _ _ _ _ _ _ c.tool.result c.in_ok-token.ensures.ok.0 c.in_ok-token.ensures.ok.1 c.in_ok-token.ensures.length
    (ap header_named (sym c.without_colon-name.ensures) ∙ (sym c.of_name.ensures ∙ c.in-Tool.is)) tt c.tool.ensures.finds

pub returns-in-Name-clause-gives : goal.returns-in-Name-clause-gives
returns-in-Name-clause-gives g c =
    item_given named.Name _ _ _ _ c.title.result c.in_ok-token.ensures.ok.0 c.in_ok-token.ensures.ok.1
    (ap header_named (sym c.without_colon-name.ensures) ∙ (sym c.of_name.ensures ∙ c.in-Name.is)) tt c.title.ensures.gives

pub returns-in-Name-clause-finds : goal.returns-in-Name-clause-finds
returns-in-Name-clause-finds g c =
    item_found named.Name _ _ _ _ _ _ c.title.result c.in_ok-token.ensures.ok.0 c.in_ok-token.ensures.ok.1 c.in_ok-token.ensures.length
    (ap header_named (sym c.without_colon-name.ensures) ∙ (sym c.of_name.ensures ∙ c.in-Name.is)) tt c.title.ensures.finds

pub returns-in-Properties-clause-gives : goal.returns-in-Properties-clause-gives
returns-in-Properties-clause-gives g c =
    item_given named.Properties _ _ _ _ c.properties.result c.in_ok-token.ensures.ok.0 c.in_ok-token.ensures.ok.1
    (ap header_named (sym c.without_colon-name.ensures) ∙ (sym c.of_name.ensures ∙ c.in-Properties.is)) tt c.properties.ensures.gives

pub returns-in-Properties-clause-finds : goal.returns-in-Properties-clause-finds
returns-in-Properties-clause-finds g c =
    item_found named.Properties _ _ _ _ _ _ c.properties.result c.in_ok-token.ensures.ok.0 c.in_ok-token.ensures.ok.1 c.in_ok-token.ensures.length
    (ap header_named (sym c.without_colon-name.ensures) ∙ (sym c.of_name.ensures ∙ c.in-Properties.is)) tt c.properties.ensures.finds

pub returns-in-Unknown-clause-gives : goal.returns-in-Unknown-clause-gives
returns-in-Unknown-clause-gives g c =
    unknown_given _ _ _ _ _ c.unknown_item.result c.in_ok-token.ensures.ok.0 c.in_ok-token.ensures.ok.1 c.without_colon-name.ensures c.unknown_item.ensures.gives

pub returns-in-Unknown-clause-finds : goal.returns-in-Unknown-clause-finds
returns-in-Unknown-clause-finds g c =
    unknown_found _ _ _ _ _ _ _ c.unknown_item.result c.in_ok-token.ensures.ok.0 c.in_ok-token.ensures.ok.1 c.in_ok-token.ensures.length c.without_colon-name.ensures (sym c.of_name.ensures ∙ c.in-Unknown.is) c.unknown_item.ensures.finds
