-- One part more is read, or none follows any more.
use Rattle.std.proofs.Common.{rules, true, []}
use Rattle.std.proofs.Common.{◌≡◌, refl, sym, subst, ◌∙◌}
use Rattle.std.specs.List.{AllByRecursion}
use Rattle.omega_hoa_syntax.proofs.PartLemmas.{IsPart, IsReadTo, read_all, read_failed, read_more, read_none}
use Rattle.omega_hoa_syntax.proofs.SpellingLemmas.{shorter}
use Rattle.omega_hoa_syntax.proofs.StepLemmas.{finds_error}
use Rattle.omega_hoa_syntax.specs.Grammar.{each}
use Rattle.omega_hoa_syntax.specs.private.steps.Reading.{EndsList, Given, IsWritten, Passes}
use Rattle.omega_hoa_syntax.specs.First.{FirstIs}
use Rattle.omega_hoa_syntax.proofs.part.read_growing.Goals as goal

pub loop-alloc-init : goal.loop-alloc-init
loop-alloc-init g c = record {
  read =
      subst (λ all. IsReadTo g.P.Part.valid g.P.Part.written (EndsList g.P.Part.first g.P.Part.next) (g.S.TokenSource.left c.args.source.now) all (g.S.TokenSource.left c.args.source.now)) (sym c.new-values.ensures.items)
      (read_none g.P.Part.valid g.P.Part.written (EndsList g.P.Part.first g.P.Part.next) (g.S.TokenSource.left c.args.source.now));
  text = refl;
}

pub returns-in_err-value-clause-finds : goal.returns-in_err-value-clause-finds
returns-in_err-value-clause-finds g c =
    let part : IsPart g.P.Part.valid g.P.Part.written g.P.Part.first g.P.Part.next = let met = g.met.P.Part c.lifetimes (search rules) in record { begun = met.begun; joins = met.joins; follows = met.follows } in
    finds_error c.from_residual.result _ _ _ _ _ _ _ _ _ c.from_residual.ensures.1 c.loop-alloc.invariant.text
    (read_failed g.P.Part.valid g.P.Part.written g.P.Part.first g.P.Part.next part (g.S.TokenSource.left c.args.source.now) (g.S.TokenSource.left c.loop-alloc.source) c.loop-alloc.values.items _ _ c.loop-alloc.invariant.read c.loop-alloc-test.ensures c.in_err-value.ensures.finds)
    (λ tokens none. none) (λ before begun. begun)

pub loop-alloc-smaller : goal.loop-alloc-smaller
loop-alloc-smaller g c =
    shorter (λ kind. g.P.Part.first kind ≡ true) (g.P.Part.written c.in_ok-value.value []) (g.S.TokenSource.left c.loop-alloc.source) (g.S.TokenSource.left c.read.new.source) ((let met = g.met.P.Part c.lifetimes (search rules) in met.begun) c.in_ok-value.value [] c.in_ok-value.ensures.gives.is)
    (c.in_ok-value.ensures.gives.spells [] (g.S.TokenSource.left c.read.new.source) refl)

pub loop-alloc-preserved : goal.loop-alloc-preserved
loop-alloc-preserved g c =
    let part : IsPart g.P.Part.valid g.P.Part.written g.P.Part.first g.P.Part.next = let met = g.met.P.Part c.lifetimes (search rules) in record { begun = met.begun; joins = met.joins; follows = met.follows } in
    record {
      read =
          subst (λ all. IsReadTo g.P.Part.valid g.P.Part.written (EndsList g.P.Part.first g.P.Part.next) (g.S.TokenSource.left c.args.source.now) all (g.S.TokenSource.left c.read.new.source)) (sym c.in_ok-push.ensures.items)
          (read_more g.P.Part.valid g.P.Part.written g.P.Part.first g.P.Part.next part (g.S.TokenSource.left c.args.source.now) (g.S.TokenSource.left c.loop-alloc.source) (g.S.TokenSource.left c.read.new.source) c.loop-alloc.values.items c.in_ok-value.value c.loop-alloc.invariant.read c.loop-alloc-test.ensures
          c.in_ok-value.ensures.gives c.in_ok-value.ensures.finds);
      text = c.in_ok-value.ensures.length ∙ c.loop-alloc.invariant.text;
    }

pub returns-clause-gives : goal.returns-clause-gives
returns-clause-gives g c = subst (λ all. Given (AllByRecursion g.P.Part.valid) (each g.P.Part.written) (g.S.TokenSource.left c.args.source.now) (g.S.TokenSource.left c.loop-alloc.source) all) (sym c.from_vec.ensures) c.loop-alloc.invariant.read.given

pub returns-clause-finds : goal.returns-clause-finds
returns-clause-finds g c =
    let part : IsPart g.P.Part.valid g.P.Part.written g.P.Part.first g.P.Part.next = let met = g.met.P.Part c.lifetimes (search rules) in record { begun = met.begun; joins = met.joins; follows = met.follows } in
    subst (λ all. Passes (IsWritten (AllByRecursion g.P.Part.valid) (each g.P.Part.written) (FirstIs (EndsList g.P.Part.first g.P.Part.next)) all) (g.S.TokenSource.left c.args.source.now) (g.S.TokenSource.left c.loop-alloc.source)) (sym c.from_vec.ensures)
    (read_all g.P.Part.valid g.P.Part.written g.P.Part.first g.P.Part.next part (g.S.TokenSource.left c.args.source.now) (g.S.TokenSource.left c.loop-alloc.source) c.loop-alloc.values.items c.loop-alloc.invariant.read c.loop-alloc-test.ensures)
