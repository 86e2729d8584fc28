-- a list that is there already, or one that is new
use Rattle.std.proofs.Common.{◌≡◌, ◌<◌, [], ℕ, List, length, Bor, ◌∙◌}
use Rattle.std.proofs.lemmas.List.{get_or_read}
use Rattle.omega_synth_game.specs.private.Firsts.{list_at}
use Rattle.omega_synth_game.proofs.FirstPlaces.{seen_before, seen_first}
use Rattle.omega_synth_game.proofs.firsts.places_of_new.Goals as goal
use Rattle.omega_synth_game.proofs.firsts.places_of_new.Goals.{then-branch+in_ok-push, else-branch}

pub loop-place-preserved : goal.loop-place-preserved
loop-place-preserved c =
    let lists : List (List ℕ) = c.args.lists.now in
    let place : ℕ = c.loop-place.place in
    let below : place < length lists = c.loop-place-test.true in
    let here : c.as_slice.result.now ≡ list_at lists place =
    c.as_slice.ensures ∙ get_or_read lists place c.index-lists-place.result below c.index-lists-place.is [] in
    elim c.if-branch.branch [
      | then-branch+in_ok-push w ↦
          rw (w.firsts-is, w.in_ok-push.ensures.items)
          (seen_first (λ (key : Bor (List ℕ)). key.now) lists place c.loop-place.firsts.items c.as_slice.result c.loop-place.seen.keys c.in_ok-insert.field-0
          here c.loop-place.invariant.0 c.in_ok-insert.ensures.added c.loop-place.invariant.1 c.insert.new.self.keys c.in_ok-insert.ensures.keys w.if-branch.true)
      | else-branch w ↦
          rw w.firsts-is
          (seen_before (λ (key : Bor (List ℕ)). key.now) lists place c.loop-place.firsts.items c.as_slice.result c.loop-place.seen.keys c.in_ok-insert.field-0
          here c.loop-place.invariant.0 c.in_ok-insert.ensures.added c.loop-place.invariant.1 c.insert.new.self.keys c.in_ok-insert.ensures.keys w.if-branch.false)
    ]
