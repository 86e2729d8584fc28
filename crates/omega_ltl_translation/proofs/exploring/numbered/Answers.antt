-- one term more
use Rattle.std.proofs.Common.{◌≡◌, ◌<◌, ◌+◌, ℕ, List, [], ◌∷◌, ◌++◌, length, get_or, take, refl, subst, sym, arith}
use Rattle.std.proofs.lemmas.List.{take_all}
use Rattle.std.specs.Prelude.{Contains}
use Rattle.omega_ltl_shapes.specs.declared.term.Term.{Term}
use Rattle.omega_ltl_shapes.proofs.ItemLemmas.{take_read}
use Rattle.omega_ltl_translation.specs.declared.graph.GraphEdge.{GraphEdge}
use Rattle.omega_ltl_terms.proofs.Refused.{large_weaker, passed_on}
use Rattle.omega_ltl_translation.specs.private.Graphs.{AreNumbered, GrowTooMany, IsStateNumber}
use Rattle.omega_ltl_translation.proofs.Growing.{adds_more, adds_none, adds_weaker, numbered_more, numbered_none}
use Rattle.omega_ltl_translation.proofs.exploring.numbered.Goals as goal

pub loop-term-init : goal.loop-term-init
loop-term-init c = record {
  numbered = subst (λ (es : List GraphEdge). AreNumbered c.args.states.now.items [] es) (sym c.new-edges.ensures.items) (numbered_none c.args.states.now.items);
  adds = adds_none (λ state. (term : Term) × Contains c.args.terms.now term × (term.next ≡ state)) c.args.states.now.items;
  found = c.requires;
}

pub loop-term-preserved : goal.loop-term-preserved
loop-term-preserved c =
    let terms : List Term = c.args.terms.now in
    let i : ℕ = c.loop-term.term-index in
    let term : Term = c.term-item.result in
    let here : term ≡ get_or terms i term = cc in
    let below : i < length terms = omega arith in
    let old : List (List ℕ) = c.loop-term.states.items in
    let new : List (List ℕ) = c.number_of.new.states.items in
    let is : IsStateNumber term.next old new c.in_ok-target.target =
    subst (λ (s : List ℕ). IsStateNumber s old new c.in_ok-target.target) c.as_slice.ensures c.in_ok-target.ensures.number in
    let edge : GraphEdge = record { cube = term.cube; target = c.in_ok-target.target; late = term.late } in
    record {
      numbered = subst (λ (es : List GraphEdge). AreNumbered new (take (i + 1) terms) es) (sym c.in_ok-push.ensures.items)
          (subst (λ (xs : List Term). AreNumbered new xs (c.loop-term.edges.items ++ edge ∷ [])) (take_read terms i term below here)
          (numbered_more old new (take i terms) c.loop-term.edges.items term edge c.loop-term.invariant.numbered is refl refl));
      adds = adds_more (λ state. (t : Term) × Contains terms t × (t.next ≡ state)) c.args.states.now.items old new c.loop-term.invariant.adds
          (adds_weaker (λ added. added ≡ term.next) (λ state. (t : Term) × Contains terms t × (t.next ≡ state)) old new
          (λ state same. (term, (i, below, sym here), sym same)) is.adds);
      found = c.in_ok-target.ensures.found;
    }

pub returns-clause-numbered : goal.returns-clause-numbered
returns-clause-numbered c =
    subst (λ (xs : List Term). AreNumbered c.loop-term.states.items xs c.from_vec.result) (take_all c.loop-term.term-index c.args.terms.now (omega arith))
    (subst (AreNumbered c.loop-term.states.items (take c.loop-term.term-index c.args.terms.now)) (sym c.from_vec.ensures) c.loop-term.invariant.numbered)

-- over the limit
pub returns-in_err-target-clause-refused : goal.returns-in_err-target-clause-refused
returns-in_err-target-clause-refused c =
    passed_on c.from_residual.result _ _ c.from_residual.ensures.1
    (large_weaker (1048576 < length c.loop-term.states.items)
    (GrowTooMany (λ state. (term : Term) × Contains c.args.terms.now term × (term.next ≡ state)) c.args.states.now.items)
    (λ many. record { new = c.loop-term.states.items; adds = c.loop-term.invariant.adds; many = many })
    _ c.in_err-target.ensures.refused)
