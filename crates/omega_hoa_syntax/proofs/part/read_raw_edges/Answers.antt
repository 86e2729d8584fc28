-- One edge more is read, or none follows any more.
use Rattle.std.proofs.Common.{◌≡◌, ◌∙◌, rules, true, [], refl, sym, subst}
use Rattle.omega_hoa_syntax.proofs.PartLemmas.{IsPart, IsReadTo, read_all, read_failed, read_more, read_none}
use Rattle.omega_hoa_syntax.proofs.SpellingLemmas.{shorter}
use Rattle.omega_hoa_syntax.proofs.StepLemmas.{finds_error}
use Rattle.omega_hoa_syntax.specs.private.steps.Reading.{EndsList}
use Rattle.omega_hoa_syntax.proofs.part.read_raw_edges.Goals as goal

pub loop-alloc-init : goal.loop-alloc-init
loop-alloc-init g c = record {
  read =
      subst (λ all. IsReadTo g.P.Part.valid g.P.Part.written (EndsList g.P.Part.first g.P.Part.next) (g.S.TokenSource.left c.args.source.now) all (g.S.TokenSource.left c.args.source.now)) (sym c.new-edges.ensures)
      (read_none g.P.Part.valid g.P.Part.written (EndsList g.P.Part.first g.P.Part.next) (g.S.TokenSource.left c.args.source.now));
  text = refl;
}

pub returns-in_err-edge-clause-finds : goal.returns-in_err-edge-clause-finds
returns-in_err-edge-clause-finds g c =
    let part : IsPart g.P.Part.valid g.P.Part.written g.P.Part.first g.P.Part.next = let met = g.met.P.Part c.lifetimes (search rules) in record { begun = met.begun; joins = met.joins; follows = met.follows } in
    finds_error c.from_residual.result _ _ _ _ _ _ _ _ _ c.from_residual.ensures.1 c.loop-alloc.invariant.text
    (read_failed g.P.Part.valid g.P.Part.written g.P.Part.first g.P.Part.next part (g.S.TokenSource.left c.args.source.now) (g.S.TokenSource.left c.loop-alloc.source) c.loop-alloc.edges _ _ c.loop-alloc.invariant.read c.loop-alloc-test.ensures c.in_err-edge.ensures.finds)
    (λ tokens none. none) (λ before begun. begun)

pub loop-alloc-smaller : goal.loop-alloc-smaller
loop-alloc-smaller g c =
    shorter (λ kind. g.P.Part.first kind ≡ true) (g.P.Part.written c.in_ok-edge.edge []) (g.S.TokenSource.left c.loop-alloc.source) (g.S.TokenSource.left c.read.new.source) ((let met = g.met.P.Part c.lifetimes (search rules) in met.begun) c.in_ok-edge.edge [] c.in_ok-edge.ensures.gives.is)
    (c.in_ok-edge.ensures.gives.spells [] (g.S.TokenSource.left c.read.new.source) refl)

pub loop-alloc-preserved : goal.loop-alloc-preserved
loop-alloc-preserved g c =
    let part : IsPart g.P.Part.valid g.P.Part.written g.P.Part.first g.P.Part.next = let met = g.met.P.Part c.lifetimes (search rules) in record { begun = met.begun; joins = met.joins; follows = met.follows } in
    record {
      read =
          subst (λ all. IsReadTo g.P.Part.valid g.P.Part.written (EndsList g.P.Part.first g.P.Part.next) (g.S.TokenSource.left c.args.source.now) all (g.S.TokenSource.left c.read.new.source)) (sym c.in_ok-push.ensures.ok)
          (read_more g.P.Part.valid g.P.Part.written g.P.Part.first g.P.Part.next part (g.S.TokenSource.left c.args.source.now) (g.S.TokenSource.left c.loop-alloc.source) (g.S.TokenSource.left c.read.new.source) c.loop-alloc.edges c.in_ok-edge.edge c.loop-alloc.invariant.read c.loop-alloc-test.ensures
          c.in_ok-edge.ensures.gives c.in_ok-edge.ensures.finds);
      text = c.in_ok-edge.ensures.length ∙ c.loop-alloc.invariant.text;
    }

pub returns-clause-gives : goal.returns-clause-gives
returns-clause-gives g c = c.loop-alloc.invariant.read.given

pub returns-clause-finds : goal.returns-clause-finds
returns-clause-finds g c =
    let part : IsPart g.P.Part.valid g.P.Part.written g.P.Part.first g.P.Part.next = let met = g.met.P.Part c.lifetimes (search rules) in record { begun = met.begun; joins = met.joins; follows = met.follows } in
    read_all g.P.Part.valid g.P.Part.written g.P.Part.first g.P.Part.next part (g.S.TokenSource.left c.args.source.now) (g.S.TokenSource.left c.loop-alloc.source) c.loop-alloc.edges c.loop-alloc.invariant.read c.loop-alloc-test.ensures
