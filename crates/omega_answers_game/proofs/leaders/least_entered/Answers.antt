-- `least_entered`: the least of one state more.
use Rattle.std.proofs.Common.{ℕ, ◌≡◌, ◌<◌, ◌≤◌, inl, inr, List, get_or, length, sym, subst, refl, arith}
use Rattle.std.proofs.lemmas.Bool.{cases_lt}
use Rattle.std.proofs.lemmas.List.{take_all}
use Rattle.std.proofs.lemmas.List.Elements.{Contains-get_or}
use Rattle.omega_graph.specs.Graph.{ends_at}
use Rattle.omega_answers_game.specs.private.Groups.{IsEntered}
use Rattle.omega_answers_game.proofs.Led.{least_more}
use Rattle.omega_answers_game.proofs.leaders.least_entered.Goals as goal

pub loop-edge-preserved : goal.loop-edge-preserved
loop-edge-preserved c =
    let shape = c.args.graph.now in
    let group : List ℕ = c.args.group.now in
    let index : ℕ = c.loop-edge.edge-index in
    let old : ℕ = c.loop-edge.least in
    let new : ℕ = c.min-least.result in
    let state : ℕ = (ends_at shape (get_or group index 0)).to in
    let below : index < length group = omega (arith, c.loop-edge-test.true) in
    let lower : new ≤ old = omega (arith, c.min-least.ensures) in
    let lower' : new ≤ state = omega (arith, c.min-least.ensures, c.to.ensures.to) in
    let here : IsEntered shape group state = record { edge = get_or group index 0; has = Contains-get_or group index 0 below; enters = refl } in
    record {
      entered = elim (cases_lt old state) [
        | inl less ↦
            let same : old ≡ new = omega (arith, less, c.min-least.ensures, c.to.ensures.to) in
            subst (IsEntered shape group) same c.loop-edge.invariant.entered
        | inr more ↦
            let same : state ≡ new = omega (arith, more, c.min-least.ensures, c.to.ensures.to) in
            subst (IsEntered shape group) same here
      ];
      least = least_more shape group index below old new lower lower' c.loop-edge.invariant.least;
      inside = omega (arith, lower, c.loop-edge.invariant.inside);
    }

pub returns-clause-least : goal.returns-clause-least
returns-clause-least c =
    let group : List ℕ = c.args.group.now in
    let index : ℕ = c.loop-edge.edge-index in
    let past : length group ≤ index = omega (arith, c.loop-edge-test.false) in
    record {
      entered = c.loop-edge.invariant.entered;
      least = λ other entered.
          c.loop-edge.invariant.least other (subst (λ (xs : List ℕ). IsEntered c.args.graph.now xs other) (sym (take_all index group past)) entered);
    }
