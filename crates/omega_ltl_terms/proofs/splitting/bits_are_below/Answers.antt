use Rattle.std.proofs.Common.{◌<◌, ◌^◌, inl, inr, sym, ◌∙◌}
use Rattle.std.proofs.lemmas.Bool.{cases_lt, false≢true}
use Rattle.omega_ltl_shapes.proofs.BitLemmas.{none_above}
use Rattle.omega_ltl_terms.proofs.splitting.bits_are_below.Goals as goal

pub returns : goal.returns
returns c place h =
    let small : c.args.word < 2 ^ 64 = c.ranges.word.fits in
    elim (cases_lt place 64) [
      | inl low ↦ low
      | inr high ↦ absurd (false≢true (sym (none_above c.args.word place small high) ∙ h))
    ]
