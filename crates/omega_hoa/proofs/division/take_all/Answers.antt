-- The tokens that a byte settles are taken one after the other.
use Rattle.std.proofs.Common.{[], ◌++◌, append-nil, sym, subst, inr}
use Rattle.omega_text.specs.hoa.Pieces.{lexemes_in}
use Rattle.omega_hoa.specs.Feeding.{IsDivided}
use Rattle.omega_hoa.specs.private.dividing.Next.{IsRefusedNow}
use Rattle.omega_hoa.proofs.Results.{error_then, extends_then, more_says, then_more}
use Rattle.omega_hoa.proofs.Settling.{both_divided, fault_next, first_next, refused_after, second_next}
use Rattle.omega_hoa.proofs.division.take_all.Goals as goal

pub take_settled-requires : goal.take_settled-requires
take_settled-requires c =
    let some = c.requires in
    (some.0, some.1, some.2, first_next c.args.bytes.now c.args.first c.args.division c.args.settled some.0 some.1 some.2 some.3)

pub returns-in_err-middle-clause-refused : goal.returns-in_err-middle-clause-refused
returns-in_err-middle-clause-refused c =
    error_then c.from_residual.result _ _ c.from_residual.ensures.1
    (λ error is seen lexemes items next.
    refused_after seen c.args.out.now.items c.args.out.now.items c.take_settled.new.out.items items [] error (sym (append-nil c.args.out.now.items)) c.in_err-middle.ensures.err
    (subst (λ all. IsRefusedNow seen all error) (sym (append-nil items))
    (subst (IsRefusedNow seen items) (sym is)
    (c.in_err-middle.ensures.refused seen lexemes items (first_next c.args.bytes.now c.args.first c.args.division c.args.settled seen lexemes items next)))))

pub take_settled-requires-2 : goal.take_settled-requires-2
take_settled-requires-2 c =
    let some = c.requires in
    let first = c.in_ok-middle.ensures.taken some.0 some.1 some.2 (first_next c.args.bytes.now c.args.first c.args.division c.args.settled some.0 some.1 some.2 some.3) in (
      some.0,
      some.1 ++ lexemes_in some.0 c.args.settled.first,
      some.2 ++ first.added,
      second_next c.args.bytes.now c.args.first c.args.division c.args.settled some.0 some.1 some.2 some.3 c.in_ok-middle.middle (some.2 ++ first.added) first.holds c.in_ok-middle.ensures.forward,
    )

pub returns-in_err-after-clause-refused : goal.returns-in_err-after-clause-refused
returns-in_err-after-clause-refused c =
    error_then c.from_residual-in_err-after.result _ _ c.from_residual-in_err-after.ensures.1
    (λ error is seen lexemes items next.
    let first = c.in_ok-middle.ensures.taken seen lexemes items (first_next c.args.bytes.now c.args.first c.args.division c.args.settled seen lexemes items next) in
    refused_after seen c.args.out.now.items c.take_settled.new.out.items c.take_settled-2.new.out.items items first.added error first.is c.in_err-after.ensures.err
    (subst (IsRefusedNow seen (items ++ first.added)) (sym is)
    (c.in_err-after.ensures.refused seen (lexemes ++ lexemes_in seen c.args.settled.first) (items ++ first.added)
    (second_next c.args.bytes.now c.args.first c.args.division c.args.settled seen lexemes items next c.in_ok-middle.middle (items ++ first.added) first.holds c.in_ok-middle.ensures.forward))))

pub returns-in-None-clause-taken : goal.returns-in-None-clause-taken
returns-in-None-clause-taken c = λ seen lexemes items next.
    let begins = c.in_ok-after.after.begins in
    let inside = c.in_ok-after.after.inside in
    let front = lexemes ++ lexemes_in seen c.args.settled.first in
    let first = c.in_ok-middle.ensures.taken seen lexemes items (first_next c.args.bytes.now c.args.first c.args.division c.args.settled seen lexemes items next) in
    let second = c.in_ok-after.ensures.taken seen front (items ++ first.added)
    (second_next c.args.bytes.now c.args.first c.args.division c.args.settled seen lexemes items next c.in_ok-middle.middle (items ++ first.added) first.holds c.in_ok-middle.ensures.forward) in
    more_says _ _ items (λ all. IsDivided seen (front ++ lexemes_in seen c.args.settled.second) all begins inside) _
    (then_more _ _ _ items _ (λ all. IsDivided seen (front ++ lexemes_in seen c.args.settled.second) all begins inside) first second)
    (λ all divided. both_divided c.args.bytes.now c.args.first c.args.division c.args.settled seen lexemes items next all begins inside divided)

pub returns-in-Some-clause-refused : goal.returns-in-Some-clause-refused
returns-in-Some-clause-refused c = λ seen lexemes items next.
    let begins = c.in_ok-after.after.begins in
    let inside = c.in_ok-after.after.inside in
    let front = lexemes ++ lexemes_in seen c.args.settled.first in
    let first = c.in_ok-middle.ensures.taken seen lexemes items (first_next c.args.bytes.now c.args.first c.args.division c.args.settled seen lexemes items next) in
    let second = c.in_ok-after.ensures.taken seen front (items ++ first.added)
    (second_next c.args.bytes.now c.args.first c.args.division c.args.settled seen lexemes items next c.in_ok-middle.middle (items ++ first.added) first.holds c.in_ok-middle.ensures.forward) in
    inr (more_says _ _ items (λ all. IsDivided seen (front ++ lexemes_in seen c.args.settled.second) all begins inside) _
    (then_more _ _ _ items _ (λ all. IsDivided seen (front ++ lexemes_in seen c.args.settled.second) all begins inside) first second)
    (λ all divided. fault_next c.args.bytes.now c.args.first c.args.division c.args.settled seen lexemes items next all begins inside c.in-Some.fault c.in-Some.is divided))

-- if a fault is settled the tokens are not taken
pub returns-in-Some-clause-taken : goal.returns-in-Some-clause-taken
returns-in-Some-clause-taken c = tt

pub returns-in-Some-clause-forward : goal.returns-in-Some-clause-forward
returns-in-Some-clause-forward c = tt

pub returns-in-Some-clause-sound : goal.returns-in-Some-clause-sound
returns-in-Some-clause-sound c = tt

pub returns-in_err-middle-clause-extends : goal.returns-in_err-middle-clause-extends
returns-in_err-middle-clause-extends c = c.in_err-middle.ensures.extends

pub returns-in_err-after-clause-extends : goal.returns-in_err-after-clause-extends
returns-in_err-after-clause-extends c = extends_then _ _ _ c.in_ok-middle.ensures.extends c.in_err-after.ensures.extends

pub returns-in-None-clause-extends : goal.returns-in-None-clause-extends
returns-in-None-clause-extends c = extends_then _ _ _ c.in_ok-middle.ensures.extends c.in_ok-after.ensures.extends

pub returns-in-Some-clause-extends : goal.returns-in-Some-clause-extends
returns-in-Some-clause-extends c = extends_then _ _ _ c.in_ok-middle.ensures.extends c.in_ok-after.ensures.extends
