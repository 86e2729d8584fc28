-- The unit goes on or ends with the byte.
use Rattle.std.proofs.Common.{◌∷◌, [], refl, sym, subst, arith}
use Rattle.omega_text.specs.private.hoa.scanning.Passing.{IsCourse, PassesAs}
use Rattle.omega_text.proofs.hoa_texts.Passing.{ends_with, goes_on}
use Rattle.omega_text.proofs.hoa_texts.Pieces.{mode_within}
use Rattle.omega_text.proofs.hoa.passing.pass_byte.Goals as goal

pub next-requires : goal.next-requires
next-requires c =
    let way = c.requires in
    mode_within way.0 way.1 c.args.pending.now 18446744073709551615 way.3 (omega (arith, way.2, way.4))

pub returns-in-GoesOn-clause-passes : goal.returns-in-GoesOn-clause-passes
returns-in-GoesOn-clause-passes c =
    goes_on c.args.place c.args.byte c.args.pending.now (record { mode = c.in-Some.next; start = c.args.pending.now.start; value = 0 }) c.in-Some.next (sym c.in-Some.ensures) refl refl
    (subst (IsCourse c.in-Some.next) c.in-GoesOn.is c.course_of.ensures)

pub returns-in-Ends-clause-passes : goal.returns-in-Ends-clause-passes
returns-in-Ends-clause-passes c =
    subst (PassesAs c.args.place (c.args.byte ∷ []) c.args.pending.now) (sym c.new.ensures)
    (ends_with c.args.place c.args.byte c.args.pending.now c.in-Some.next (sym c.in-Some.ensures) (subst (IsCourse c.in-Some.next) c.in-Ends.is c.course_of.ensures))
