-- how many names there are, and whether they are fit
use Rattle.std.proofs.Common.{◌≤◌, ℕ, List, length, refl, sym, ap, subst, ◌∙◌, arith}
use Rattle.std.specs.Prelude.{All}
use Rattle.std.specs.Str.{bytes_eq}
use Rattle.std.proofs.lemmas.Bool.{both_ways}
use Rattle.omega_text.specs.hoa.Forms.{IsQuotable}
use Rattle.omega_hoa_automaton.specs.Automaton.{has_repeat}
use Rattle.omega_hoa_automaton.specs.Limits.{most_propositions}
use Rattle.omega_circuit_automaton.specs.Names.{AreApart, proposition_names}
use Rattle.omega_circuit_automaton.proofs.Words.{names_count}
use Rattle.omega_circuit_automaton.proofs.names.proposition_names.Goals as goal

pub returns-then-inputs-outputs-gt-MOST_PROPOSITIONS-clause-err : goal.returns-then-inputs-outputs-gt-MOST_PROPOSITIONS-clause-err
returns-then-inputs-outputs-gt-MOST_PROPOSITIONS-clause-err c = (
  refl,
  λ apart.
      let many = names_count c.args.circuit.now in
      let inputs = ap length c.inputs.ensures in
      let outputs = ap length c.outputs.ensures in
      let few = apart.few in
      omega (arith, many, inputs, outputs, few),
)

pub returns-then-are_quotable-clause-fit : goal.returns-then-are_quotable-clause-fit
returns-then-are_quotable-clause-fit c =
    let names : List (List ℕ) = proposition_names c.args.circuit.now in
    let many = names_count c.args.circuit.now in
    let inputs = ap length c.inputs.ensures in
    let outputs = ap length c.outputs.ensures in
    record {
      apart = record {
        few = (let few : length names ≤ most_propositions = omega (arith, many, inputs, outputs) in few);
        unlike = ap (has_repeat bytes_eq) (sym (c.as_slice.ensures.value ∙ c.in_ok-names.ensures.names)) ∙ sym c.has_repeat.ensures ∙ c.if-has_repeat.false;
      };
      quotable = subst (All IsQuotable) (c.as_slice-2.ensures.value ∙ c.in_ok-names.ensures.names) (c.are_quotable.ensures.0 c.if-are_quotable.true);
    }

pub returns-clause-err : goal.returns-clause-err
returns-clause-err c =
    let names : List (List ℕ) = proposition_names c.args.circuit.now in
    let many = names_count c.args.circuit.now in
    let inputs = ap length c.inputs.ensures in
    let outputs = ap length c.outputs.ensures in
    let apart : AreApart names = record {
      few = (let few : length names ≤ most_propositions = omega (arith, many, inputs, outputs) in few);
      unlike = ap (has_repeat bytes_eq) (sym (c.as_slice.ensures.value ∙ c.in_ok-names.ensures.names)) ∙ sym c.has_repeat.ensures ∙ c.if-has_repeat.false;
    } in (
      refl,
      apart,
      λ all. both_ways c.are_quotable.result c.if-are_quotable.false
          (c.are_quotable.ensures.1 (subst (All IsQuotable) (sym (c.as_slice-2.ensures.value ∙ c.in_ok-names.ensures.names)) all)),
    )
