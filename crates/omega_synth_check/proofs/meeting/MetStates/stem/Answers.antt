-- one edge more, from the end
use Rattle.std.proofs.Common.{◌≡◌, ℕ, List, length, Option, None, Some, sym, ap, subst, ◌∙◌, arith}
use Rattle.omega_lang_runs.specs.Lasso.{Leads}
use Rattle.omega_synth_check.specs.declared.meeting.StateEntry.{StateEntry}
use Rattle.omega_synth_check.specs.private.Meeting.{entry_at, state_at}
use Rattle.omega_synth_check.proofs.Reached.{stem_begins, stem_more}
use Rattle.omega_synth_check.proofs.meeting.MetStates.stem.Goals as goal

pub bounds-entries-at : goal.bounds-entries-at
bounds-entries-at c = omega (arith, c.requires.met.paired, c.loop-at.invariant.0, ap length c.as_slice-entries.ensures.value)

pub loop-at-preserved : goal.loop-at-preserved
loop-at-preserved c =
    let states : List ℕ = c.args.self.now.states.keys in
    let there : entry_at c.args.self.now.entries.items c.loop-at.at ≡ Some c.in-Some.entry =
    ap (λ (list : List (Option StateEntry)). entry_at list c.loop-at.at) (sym c.as_slice-entries.ensures.value) ∙ c.in-Some.is in
    let more = stem_more c.args._automaton.now states c.args.self.now.entries.items c.requires.met c.loop-at.at (state_at states c.args.place) c.in-Some.entry
    c.loop-at.numbers.items c.push.new.self.items c.loop-at.invariant.0 there c.in_ok-push.ensures.items c.loop-at.invariant.1 in
    (omega (arith, more.0, c.loop-at.invariant.0), more.1)

pub loop-at-smaller : goal.loop-at-smaller
loop-at-smaller c =
    let states : List ℕ = c.args.self.now.states.keys in
    let there : entry_at c.args.self.now.entries.items c.loop-at.at ≡ Some c.in-Some.entry =
    ap (λ (list : List (Option StateEntry)). entry_at list c.loop-at.at) (sym c.as_slice-entries.ensures.value) ∙ c.in-Some.is in
    (stem_more c.args._automaton.now states c.args.self.now.entries.items c.requires.met c.loop-at.at (state_at states c.args.place) c.in-Some.entry
    c.loop-at.numbers.items c.push.new.self.items c.loop-at.invariant.0 there c.in_ok-push.ensures.items c.loop-at.invariant.1).0

pub returns-clause-stem : goal.returns-clause-stem
returns-clause-stem c =
    let states : List ℕ = c.args.self.now.states.keys in
    let there : entry_at c.args.self.now.entries.items c.loop-at.at ≡ None =
    ap (λ (list : List (Option StateEntry)). entry_at list c.loop-at.at) (sym c.as_slice-entries.ensures.value) ∙ c.in_default.is in (
      state_at states c.loop-at.at,
      stem_begins c.args._automaton.now states c.args.self.now.entries.items c.requires.met c.loop-at.at c.loop-at.invariant.0 there,
      subst (λ (numbers : List ℕ). Leads c.args._automaton.now (state_at states c.loop-at.at) numbers (state_at states c.args.place)) (sym c.from_vec.ensures)
          (subst (λ (numbers : List ℕ). Leads c.args._automaton.now (state_at states c.loop-at.at) numbers (state_at states c.args.place)) (sym c.reverse.ensures.items) c.loop-at.invariant.1),
    )
