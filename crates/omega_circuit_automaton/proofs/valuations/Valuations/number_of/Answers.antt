-- the valuation was there
use Rattle.std.proofs.Common.{◌≡◌, ◌<◌, ℕ, Bool, List, [], length, sym, subst, ◌∙◌, arith}
use Rattle.std.proofs.lemmas.List.{get_or_default}
use Rattle.omega_circuit_automaton.specs.private.Cuts.{AddsValuations}
use Rattle.omega_circuit_automaton.proofs.Growing.{adds_none, same_flags}
use Rattle.omega_circuit_automaton.proofs.valuations.Valuations.number_of.Goals as goal

pub returns-then-eq : goal.returns-then-eq
returns-then-eq c =
    let old : List (List Bool) = c.args.self.now.all.items in
    let new : List (List Bool) = c.place_of.new.self.all.items in
    let number : ℕ = c.in_ok-number.number in
    let low : number < length new = omega arith in
    let here : c.as_slice.result.now ≡ c.args.valuation.now = same_flags c.as_slice.result.now c.args.valuation.now (sym c.eq.ensures ∙ c.if-eq.true) in
    record {
      adds = subst (λ (xs : List (List Bool)). AddsValuations (length c.args.valuation.now) old xs) (sym c.place_of.ensures) (adds_none (length c.args.valuation.now) old);
      low = low;
      is = sym (get_or_default new number c.index.result.now [] low) ∙ sym c.index.ensures ∙ sym c.as_slice.ensures ∙ here;
    }
