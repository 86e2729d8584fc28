-- `BreadthSearch::begin`: meets the states with which the search begins.
use Rattle.std.proofs.Common.{◌≡◌, ◌<◌, length, get_or, IsTrue, refl, sym, subst, arith}
use Rattle.std.proofs.lemmas.List.Elements.{Contains-get_or}
use Rattle.omega_graph.specs.declared.met.MetState.{MetState}
use Rattle.omega_graph.specs.private.Searching.{Grows, IsStart, Trace, mark_at, meeting}
use Rattle.omega_graph.proofs.Growing.{begun_more, grows_more}
use Rattle.omega_graph.proofs.searching.BreadthSearch.begin.Goals as goal

pub loop-source-preserved : goal.loop-source-preserved
loop-source-preserved c =
    let so_far = c.loop-source.invariant in
    let index = c.loop-source.source-index in
    let within : index < length c.args.sources.now = omega arith in
    let met : MetState = record { state = get_or c.args.sources.now index 0; edge = 0; origin = 0 } in
    let first : get_or c.args.sources.now index 0 < length c.args.self.now.marks = c.requires index 0 within in
    let below : get_or c.args.sources.now index 0 < length c.loop-source.self.marks = omega (arith, so_far.0.count) in
    let is : c.meet.new.self ≡ meeting c.loop-source.self met = c.in_ok-meet.ensures in (
      subst (λ (t : Trace). Grows (IsStart c.args.sources.now) c.args.self.now t) (sym is)
          (grows_more (IsStart c.args.sources.now) c.args.self.now c.loop-source.self met so_far.0 below (refl, Contains-get_or c.args.sources.now index 0 within)),
      λ v has. subst (λ (t : Trace). IsTrue (mark_at t.marks v)) (sym is) (begun_more c.args.sources.now index c.loop-source.self met within refl below so_far.1 v has),
    )
