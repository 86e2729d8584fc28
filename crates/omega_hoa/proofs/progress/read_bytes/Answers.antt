-- The bytes are read part by part.
use Rattle.std.proofs.Common.{◌≡◌, ◌++◌, length, arith, sym, subst}
use Rattle.omega_hoa.specs.Feeding.{Appends, IsRefusedThen}
use Rattle.omega_hoa.specs.private.dividing.Next.{IsProgress}
use Rattle.omega_hoa.proofs.Results.{error_then, extends_then, then_more}
use Rattle.omega_hoa.proofs.Settling.{refused_later}
use Rattle.omega_hoa.proofs.progress.read_bytes.Goals as goal

pub read_some-requires-clause-so_far : goal.read_some-requires-clause-so_far
read_some-requires-clause-so_far c =
    let some = c.requires.so_far in
    let before = c.loop-place.invariant.read some.0 some.1 some.2 in
    (some.0, some.1 ++ before.added, before.holds)

pub returns-in_err-after-clause-refused : goal.returns-in_err-after-clause-refused
returns-in_err-after-clause-refused c =
    error_then c.from_residual.result _ _ c.from_residual.ensures.1
    (λ error is prior items so_far.
    let before = c.loop-place.invariant.read prior items so_far in
    refused_later (prior ++ c.args.bytes.now) c.args.out.now.items c.loop-place.out.items c.read_some.new.out.items items before.added error before.is
    (subst (IsRefusedThen (prior ++ c.args.bytes.now) c.loop-place.out.items c.read_some.new.out.items (items ++ before.added)) (sym is)
    (c.in_err-after.ensures.refused prior (items ++ before.added) before.holds)))

pub loop-place-preserved : goal.loop-place-preserved
loop-place-preserved c = record {
  within = c.in_ok-after.ensures.end;
  read = λ prior items so_far.
      let before = c.loop-place.invariant.read prior items so_far in
      then_more _ _ _ items _ (IsProgress c.args.bytes.now c.args.first c.in_ok-after.end c.in_ok-after.after prior) before
      (c.in_ok-after.ensures.read prior (items ++ before.added) before.holds);
  extends = extends_then _ _ _ c.loop-place.invariant.extends c.in_ok-after.ensures.extends;
}

pub returns-clause-read : goal.returns-clause-read
returns-clause-read c = λ prior items so_far.
    let end : c.loop-place.place ≡ length c.args.bytes.now = omega (arith, c.loop-place.invariant.within, c.loop-place-test.false) in
    subst (λ place. (Appends c.args.out.now.items c.loop-place.out.items items (IsProgress c.args.bytes.now c.args.first place c.loop-place.reached prior))) end
    (c.loop-place.invariant.read prior items so_far)

pub returns-clause-extends : goal.returns-clause-extends
returns-clause-extends c = c.loop-place.invariant.extends

pub returns-in_err-after-clause-extends : goal.returns-in_err-after-clause-extends
returns-in_err-after-clause-extends c = extends_then _ _ _ c.loop-place.invariant.extends c.in_err-after.ensures.extends
