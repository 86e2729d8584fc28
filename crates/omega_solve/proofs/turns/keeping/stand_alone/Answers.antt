-- One more place is lost, or is below top and rests on kept ones.
use Rattle.std.proofs.Common.{◌≡◌, ◌<◌, ◌∙◌, ℕ, Bool, IsSome, inl, inr, true, false, List, get_or, length, sym, subst, arith}
use Rattle.std.proofs.lemmas.Bool.{cases_eq, false≢true}
use Rattle.std.proofs.lemmas.Option.{get_or_from_slice_get, slice_get_within}
use Rattle.omega_lift_laws.specs.Allowance.{measure_at}
use Rattle.omega_solve.specs.private.turning.Handing.{IsKept, Rests}
use Rattle.omega_solve.proofs.turns.keeping.stand_alone.Goals as goal
use Rattle.omega_solve.proofs.turns.keeping.stand_alone.Goals.{else-not-lost-place-via-then-not-lost-place+else-not-is_held, else-not-lost-place-via-else-not-lost-place}

pub loop-place-init : goal.loop-place-init
loop-place-init g c = record { below_top = λ v lt kept. absurd (omega arith); rests = λ v lt kept. absurd (omega arith) }

-- a kept place is not lost
not_lost : (lost : List Bool) (v : ℕ) → IsKept lost v → get_or lost v false ≡ true → ⊥
not_lost lost v kept is = false≢true (sym (get_or_from_slice_get lost v false false kept) ∙ is)

pub loop-place-preserved : goal.loop-place-preserved
loop-place-preserved g c =
    let before = c.loop-place.invariant in
    let place = c.loop-place.place in
    let content = g.T.MeasureTable.content c.args.table.now in
    let below : IsKept c.args.lost.now place → IsSome (measure_at content.measures place) = elim c.else-not-lost-place.branch [
      | else-not-lost-place-via-then-not-lost-place+else-not-is_held w ↦ λ kept. w.is_held.ensures.below_top w.if-not-is_held.false
      | else-not-lost-place-via-else-not-lost-place w ↦ λ kept. absurd (not_lost c.args.lost.now place kept w.if-not-lost-place.false)
    ] in
    let rests : IsKept c.args.lost.now place → Rests c.args.game.now c.args.player content c.args.lost.now place = elim c.else-not-lost-place.branch [
      | else-not-lost-place-via-then-not-lost-place+else-not-is_held w ↦ λ kept. w.is_held.ensures.rests w.if-not-is_held.false
      | else-not-lost-place-via-else-not-lost-place w ↦ λ kept. absurd (not_lost c.args.lost.now place kept w.if-not-lost-place.false)
    ] in
    record {
      below_top = λ v lt. elim (cases_eq v place) [
        | inl same ↦ subst (λ (u : ℕ). IsKept c.args.lost.now u → IsSome (measure_at content.measures u)) (sym same) below
        | inr other ↦ before.below_top v (omega arith)
      ];
      rests = λ v lt. elim (cases_eq v place) [
        | inl same ↦ subst (λ (u : ℕ). IsKept c.args.lost.now u → Rests c.args.game.now c.args.player content c.args.lost.now u) (sym same) rests
        | inr other ↦ before.rests v (omega arith)
      ];
    }

pub returns : goal.returns
returns g c = λ _.
    let all = c.loop-place.invariant in
    let inside = λ (v : ℕ) (kept : IsKept c.args.lost.now v).
    let within : v < length c.args.lost.now = slice_get_within c.args.lost.now v false kept in
    let reached : v < c.loop-place.place = omega (arith, within, c.requires.entries, c.len-place-end.ensures.count, c.loop-place-test.false) in
    reached in
    record {
      below_top = λ v kept. all.below_top v (inside v kept) kept;
      rests = λ v kept. all.rests v (inside v kept) kept;
    }
