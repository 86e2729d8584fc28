-- What is kept for a place is its count.
use Rattle.std.proofs.Common.{◌≡◌, ◌<◌, length, get_or, sym, subst}
use Rattle.omega_lift_laws.specs.Measure.{entries_from}
use Rattle.omega_measure.proofs.Shapes.{kept_at}
use Rattle.omega_measure.proofs.shape.Shape.entries_kept.Goals as goal

pub returns : goal.returns
returns c =
    let s = c.self.inside in
    let within = subst (λ b. c.args.place < length b.priorities) (sym c.self.view_is) c.requires in
    subst (λ b. c.index.result.now ≡ entries_from b.player b.priorities (get_or b.priorities c.args.place 0)) c.self.view_is
    (kept_at s.player s.priorities.items s.losing.items s.limits.items s.kept.items c.args.place c.index.result.now c.self.invariant within c.index.ensures)
