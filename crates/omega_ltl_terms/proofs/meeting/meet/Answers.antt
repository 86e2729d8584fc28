-- one edge more
use Rattle.std.proofs.Common.{◌≡◌, ◌⊎◌, inl, inr, ◌<◌, ◌≤◌, ◌+◌, ℕ, List, [], length, get_or, take, refl, subst, sym}
use Rattle.std.proofs.Common.{arith}
use Rattle.std.specs.Prelude.{Contains}
use Rattle.std.proofs.lemmas.List.{take_all}
use Rattle.omega_ltl_shapes.specs.declared.term.Term.{Term}
use Rattle.omega_ltl_shapes.proofs.ItemLemmas.{take_read}
use Rattle.omega_ltl_terms.specs.Adding.{HasManyTerms}
use Rattle.omega_ltl_terms.specs.Meeting.{LacksSet}
use Rattle.omega_ltl_terms.specs.private.Meeting.{MeetsAll, MeetsBesideOne}
use Rattle.omega_ltl_terms.proofs.Adding.{contains_taken}
use Rattle.omega_ltl_terms.proofs.Refused.{large_weaker, passed_on}
use Rattle.omega_ltl_terms.proofs.MeetingLemmas.{met_more, met_none, met_too_many}
use Rattle.omega_ltl_terms.proofs.meeting.meet.Goals as goal

pub loop-edge-init : goal.loop-edge-init
loop-edge-init c = subst (MeetsAll c.args.tables.now.shapes c.args.tables.now.strongs c.args.d []) (sym c.new-kept.ensures.items)
    (met_none c.args.tables.now.shapes c.requires.tables.terms.grounded c.args.tables.now.strongs c.args.d)

pub loop-edge-preserved : goal.loop-edge-preserved
loop-edge-preserved c =
    let edges : List Term = c.args.edges.now in
    let i : ℕ = c.loop-edge.edge-index in
    let here : c.edge-item.result ≡ get_or edges i c.edge-item.result = cc in
    let below : i < length edges = omega arith in
    let room : length c.push_met.new.kept.items ≤ 4096 = omega (arith, c.len.ensures) in
    subst (λ (xs : List Term). MeetsAll c.args.tables.now.shapes c.args.tables.now.strongs c.args.d xs c.push_met.new.kept.items) (take_read edges i c.edge-item.result below here)
    (met_more c.args.tables.now.shapes c.requires.tables.terms.grounded c.args.tables.now.strongs c.args.d (take i edges) c.edge-item.result c.loop-edge.kept.items c.push_met.new.kept.items
    room c.loop-edge.invariant c.in_ok-push_met.ensures.ok)

pub returns-clause-ok : goal.returns-clause-ok
returns-clause-ok c =
    subst (λ (xs : List Term). MeetsAll c.args.tables.now.shapes c.args.tables.now.strongs c.args.d xs c.loop-edge.kept.items)
    (take_all c.loop-edge.edge-index c.args.edges.now (omega arith)) c.loop-edge.invariant

-- over the limit
pub returns-then-len-gt-MOST_TERMS-clause-refused : goal.returns-then-len-gt-MOST_TERMS-clause-refused
returns-then-len-gt-MOST_TERMS-clause-refused c =
    let edges : List Term = c.args.edges.now in
    let i : ℕ = c.loop-edge.edge-index in
    let here : c.edge-item.result ≡ get_or edges i c.edge-item.result = cc in
    let below : i < length edges = omega arith in
    let many : 4096 < length c.push_met.new.kept.items = omega (arith, c.len.ensures) in (
      refl,
      inr (met_too_many c.args.tables.now.shapes c.requires.tables.terms.grounded c.args.tables.now.strongs c.args.d (take i edges) edges c.edge-item.result
          c.loop-edge.kept.items c.push_met.new.kept.items
          (λ t h. contains_taken edges (i + 1) t (subst (λ (xs : List Term). Contains xs t) (take_read edges i c.edge-item.result below here) h))
          many c.loop-edge.invariant c.in_ok-push_met.ensures.ok),
    )

-- the demand has no set
pub returns-in_err-push_met-clause-refused : goal.returns-in_err-push_met-clause-refused
returns-in_err-push_met-clause-refused c =
    passed_on c.from_residual.result _ _ c.from_residual.ensures.1
    (large_weaker (LacksSet c.args.tables.now.shapes c.args.tables.now.strongs c.args.d)
    (LacksSet c.args.tables.now.shapes c.args.tables.now.strongs c.args.d
    ⊎ HasManyTerms (MeetsBesideOne c.args.tables.now.shapes c.args.tables.now.strongs c.args.d c.args.edges.now))
    (λ lacks. inl lacks) _ c.in_err-push_met.ensures.refused)
