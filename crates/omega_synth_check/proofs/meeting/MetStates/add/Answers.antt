-- the state is inserted last, or was there already
use Rattle.omega_synth_check.proofs.MetStates.{added, stored_there}
use Rattle.omega_synth_check.proofs.meeting.MetStates.add.Goals as goal

pub returns-clause-met : goal.returns-clause-met
returns-clause-met c =
    (added c.args._automaton.now c.args.self.now.states.keys c.args.self.now.entries.items c.args.state c.args.entry c.requires.met c.requires.entered
    c.insert_full.new.self.keys c.note.new.entries.items c.in_ok-placed.placed.1 c.in_ok-placed.ensures.added c.in_ok-placed.ensures.keys
    c.in_ok-note.ensures.noted c.in_ok-placed.ensures.unique).0

pub returns-clause-extends : goal.returns-clause-extends
returns-clause-extends c =
    (added c.args._automaton.now c.args.self.now.states.keys c.args.self.now.entries.items c.args.state c.args.entry c.requires.met c.requires.entered
    c.insert_full.new.self.keys c.note.new.entries.items c.in_ok-placed.placed.1 c.in_ok-placed.ensures.added c.in_ok-placed.ensures.keys
    c.in_ok-note.ensures.noted c.in_ok-placed.ensures.unique).1

pub returns-clause-there : goal.returns-clause-there
returns-clause-there c =
    let stored = c.in_ok-placed.ensures.stored in
    stored_there c.insert_full.new.self.keys c.in_ok-placed.placed.0 c.args.state stored.0 stored.1 stored.2
