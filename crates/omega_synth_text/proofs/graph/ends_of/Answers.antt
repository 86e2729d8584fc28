-- the edge that was found enters one state
use Rattle.std.proofs.Common.{◌≡◌, ℕ, ◌<◌, List, [], ◌∷◌, Some, get_or, length, refl, ap, sym, subst, ◌∙◌, arith}
use Rattle.omega_hoa_automaton.specs.Automaton.{BodyEdge, edge_at}
use Rattle.omega_hoa_automaton.specs.declared.edge.Edge.{Edge}
use Rattle.omega_lang_runs.proofs.Kept.{edge_kept}
use Rattle.omega_lang_runs.proofs.SingleTargets.{EntersOne, enters_one}
use Rattle.omega_synth_text.proofs.graph.ends_of.Goals as goal

pub bounds-targets-0 : goal.bounds-targets-0
bounds-targets-0 c =
    let edge : BodyEdge = record { source = c.in_ok-found.found.state.now; edge = c.edge-edge.result } in
    let numbered : edge_at c.args.automaton.now c.args.number ≡ Some edge =
    c.in_ok-found.ensures.edge c.edge-edge.result
    ∙ ap (λ (e : Edge). Some (record { source = c.in_ok-found.found.state.now; edge = e })) (sym c.edge-edge.ensures) in
    let one : EntersOne c.args.automaton.now.states edge =
    enters_one c.args.automaton.now c.keeps_limits.ensures c.requires.plain c.args.number edge numbered in
    let targets : c.targets.result.now ≡ one.target ∷ [] = c.targets.ensures ∙ one.enters in
    omega (arith, ap length targets)

pub returns-clause-ends : goal.returns-clause-ends
returns-clause-ends c =
    let edge : BodyEdge = record { source = c.in_ok-found.found.state.now; edge = c.edge-edge.result } in
    let numbered : edge_at c.args.automaton.now c.args.number ≡ Some edge =
    c.in_ok-found.ensures.edge c.edge-edge.result
    ∙ ap (λ (e : Edge). Some (record { source = c.in_ok-found.found.state.now; edge = e })) (sym c.edge-edge.ensures) in
    let one : EntersOne c.args.automaton.now.states edge =
    enters_one c.args.automaton.now c.keeps_limits.ensures c.requires.plain c.args.number edge numbered in
    let target : one.target ≡ get_or c.targets.result.now 0 0 = ap (λ (xs : List ℕ). get_or xs 0 0) (sym (c.targets.ensures ∙ one.enters)) in
    record {
      edge = edge;
      numbered = numbered;
      leaves = refl;
      enters = one.enters ∙ ap (λ (x : ℕ). x ∷ []) target;
      from_below = (edge_kept c.args.automaton.now c.keeps_limits.ensures c.args.number edge numbered).0.number;
      to_below = subst (λ (x : ℕ). x < c.args.automaton.now.states) target one.below;
    }
