-- one start more
use Rattle.std.proofs.Common.{◌≡◌, ◌+◌, ◌<◌, ℕ, List, [], ◌∷◌, length, get_or, Contains, sym, ap, subst, ◌∙◌, arith}
use Rattle.std.proofs.lemmas.List.{get_or_default, take_all}
use Rattle.omega_synth_controllers.proofs.Starts.{one_start}
use Rattle.omega_synth_check.proofs.MetStates.{met_none, starts_more}
use Rattle.omega_synth_check.proofs.meeting.MetStates.starts.Goals as goal

pub loop-start-init : goal.loop-start-init
loop-start-init c =
    (met_none c.args.automaton.now _ _ c.new.ensures.empty c.new-2.ensures.items, λ start has. absurd (omega (arith, has.1)))

pub loop-start-preserved : goal.loop-start-preserved
loop-start-preserved c =
    let a = c.args.automaton.now in
    let index : ℕ = c.loop-start.start-index in
    let start : List ℕ = c.start-item.result in
    let below : index < length a.starts = omega (arith, c.loop-start-test.true, ap length c.starts-start-items.ensures) in
    let here : start ≡ get_or a.starts index start =
    c.start-item.is ∙ ap (λ (list : List (List ℕ)). get_or list index start) c.starts-start-items.ensures in
    let one = one_start a c.keeps_limits.ensures c.requires index start below here in
    let first : ℕ = get_or c.as_slice.result.now 0 0 in
    let is : get_or a.starts index [] ≡ first ∷ [] =
    get_or_default a.starts index [] start below ∙ sym here ∙ one.1 ∙ ap (λ (list : List ℕ). get_or list 0 0 ∷ []) (sym c.as_slice.ensures) in (
      c.in_ok-add.ensures.met,
      starts_more c.loop-start.met.states.keys c.add.new.self.states.keys a.starts index first c.in_ok-add.ensures.extends below is c.in_ok-add.ensures.there
          c.loop-start.invariant.1,
    )

pub returns-clause-starts : goal.returns-clause-starts
returns-clause-starts c =
    let a = c.args.automaton.now in
    let all : length a.starts < c.loop-start.start-index + 1 = omega (arith, c.loop-start-test.false, ap length c.starts-start-items.ensures) in
    λ start begins.
    c.loop-start.invariant.1 start
    (subst (λ (list : List (List ℕ)). Contains list (start ∷ [])) (sym (take_all c.loop-start.start-index a.starts (omega (arith, all)))) begins)
