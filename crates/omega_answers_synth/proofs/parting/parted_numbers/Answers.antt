-- the item of the specification is refused, or that of the other, or the two differ
use Rattle.std.proofs.Common.{sym, ◌∙◌}
use Rattle.std.proofs.lemmas.Bool.{false≢true}
use Rattle.omega_answers_synth.proofs.Reported.{controller_reported, specification_reported, unlike_reported}
use Rattle.omega_answers_synth.proofs.parting.parted_numbers.Goals as goal

pub returns-in-Err-clause-refused : goal.returns-in-Err-clause-refused
returns-in-Err-clause-refused c =
    specification_reported c.args.specification.now c.args.other.now c.in-Err.refusal c.in-Err.ensures.refused c.of.result c.of.ensures

pub returns-in-Err-controlled_propositions-clause-refused : goal.returns-in-Err-controlled_propositions-clause-refused
returns-in-Err-controlled_propositions-clause-refused c =
    controller_reported c.args.specification.now c.args.other.now (c.in-Ok.numbers, c.in-Ok.ensures.controlled)
    c.in-Err-controlled_propositions.refusal c.in-Err-controlled_propositions.ensures.refused
    c.of-in-Err-controlled_propositions.result c.of-in-Err-controlled_propositions.ensures

pub returns-then-not-are_alike-clause-refused : goal.returns-then-not-are_alike-clause-refused
returns-then-not-are_alike-clause-refused c =
    unlike_reported c.args.specification.now c.args.other.now c.in-Ok.numbers c.in-Ok-controlled_propositions.numbers
    c.propositions-names.result.now c.propositions-own_names.result.now c.as_slice.result.now c.as_slice-then-has_controllable_item.result.now
    c.in-Ok.ensures.controlled c.in-Ok-controlled_propositions.ensures.controlled
    c.propositions-names.ensures c.propositions-own_names.ensures c.as_slice.ensures c.as_slice-then-has_controllable_item.ensures
    (sym c.has_controllable_item.ensures ∙ c.if-has_controllable_item.true) (λ alike. false≢true (sym c.if-not-are_alike.true ∙ c.are_alike.ensures.1 alike))
    c.of-then-not-are_alike.result c.of-then-not-are_alike.ensures
