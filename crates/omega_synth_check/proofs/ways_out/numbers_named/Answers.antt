-- one proposition more
use Rattle.std.proofs.Common.{◌≡◌, ◌<◌, ℕ, List, [], length, get_or, sym, ◌∙◌, arith}
use Rattle.std.proofs.lemmas.List.{get_or_read}
use Rattle.omega_synth_check.proofs.SystemNames.{number_passed, number_skipped}
use Rattle.omega_synth_check.proofs.ways_out.numbers_named.Goals as goal
use Rattle.omega_synth_check.proofs.ways_out.numbers_named.Goals.{then-is_name_among+in_ok-push, else-is_name_among}

pub loop-p-preserved : goal.loop-p-preserved
loop-p-preserved c =
    let names : List (List ℕ) = c.args.names.now in
    let p : ℕ = c.loop-p.p in
    let name : List ℕ = c.as_slice.result.now in
    let below : p < length names = omega (arith, c.loop-p-test.true) in
    let named : name ≡ get_or names p [] = c.as_slice.ensures ∙ get_or_read names p c.index-names-p.result below c.index-names-p.is [] in
    elim c.if-is_name_among.branch [
      | then-is_name_among+in_ok-push w ↦
          rw w.found-is
          (w.in_ok-push.ensures.items ∙ number_passed names c.args.controlled.now p name c.loop-p.found.items named
          (sym c.is_name_among.ensures ∙ w.if-is_name_among.true) c.loop-p.invariant)
      | else-is_name_among w ↦
          rw w.found-is
          (number_skipped names c.args.controlled.now p name c.loop-p.found.items named (sym c.is_name_among.ensures ∙ w.if-is_name_among.false) c.loop-p.invariant)
    ]
