-- the item is refused, or it lists other propositions
use Rattle.std.proofs.Common.{ℕ, List, sym, subst, ◌∙◌, true≢false}
use Rattle.std.proofs.lemmas.Bool.{false≢true}
use Rattle.omega_answers_synth.specs.private.Listed.{AreListedAlike}
use Rattle.omega_answers_synth.proofs.FormulaReported.{item_reported, unlike_item_reported}
use Rattle.omega_answers_synth.proofs.outputs.check_outputs.Goals as goal
use Rattle.omega_answers_synth.proofs.outputs.check_outputs.Goals.{else-has_controllable_item-via-then-has_controllable_item+else-not-are_listed_alike, else-has_controllable_item-via-else-has_controllable_item}

pub returns-in-Err-clause-refused : goal.returns-in-Err-clause-refused
returns-in-Err-clause-refused c =
    item_reported c.args.outs.now c.args.automaton.now c.in-Err.refusal c.in-Err.ensures.refused
    c.of.result c.of.ensures

pub returns-then-not-are_listed_alike-clause-refused : goal.returns-then-not-are_listed_alike-clause-refused
returns-then-not-are_listed_alike-clause-refused c =
    unlike_item_reported c.args.outs.now c.args.automaton.now c.in-Ok.numbers c.in-Ok.ensures.controlled
    (sym c.has_controllable_item.ensures ∙ c.if-has_controllable_item.true)
    (λ alike. false≢true (sym c.if-not-are_listed_alike.true
    ∙ c.are_listed_alike.ensures.1 (subst (λ (names : List (List ℕ)). AreListedAlike names c.as_slice.result.now c.args.outs.now) (sym c.propositions-names.ensures)
    (subst (λ (numbers : List ℕ). AreListedAlike c.args.automaton.now.propositions numbers c.args.outs.now) (sym c.as_slice.ensures) alike))))
    c.of-then-not-are_listed_alike.result c.of-then-not-are_listed_alike.ensures

pub returns-clause-outputs : goal.returns-clause-outputs
returns-clause-outputs c = record {
  listed = c.in-Ok.numbers;
  item = c.in-Ok.ensures.controlled;
  alike = λ has. elim c.else-has_controllable_item.branch [
    | else-has_controllable_item-via-then-has_controllable_item+else-not-are_listed_alike w ↦
        subst (λ (numbers : List ℕ). AreListedAlike c.args.automaton.now.propositions numbers c.args.outs.now) w.as_slice.ensures
        (subst (λ (names : List (List ℕ)). AreListedAlike names w.as_slice.result.now c.args.outs.now) c.propositions-names.ensures
        (w.are_listed_alike.ensures.0 w.if-not-are_listed_alike.false))
    | else-has_controllable_item-via-else-has_controllable_item w ↦
        absurd (true≢false (sym has ∙ sym c.has_controllable_item.ensures ∙ w.if-has_controllable_item.false))
  ];
}
