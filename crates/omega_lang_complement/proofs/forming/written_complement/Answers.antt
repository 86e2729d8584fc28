-- what is written, part by part
use Rattle.std.proofs.Common.{◌∙◌}
use Rattle.omega_lang_complement.proofs.forming.written_complement.Goals as goal

pub returns-clause-written : goal.returns-clause-written
returns-clause-written c = record {
  sink = c.needs_sink-sink.result;
  needed = c.needs_sink-sink.ensures;
  version = c.in_ok-version.ensures;
  items = c.from_vec.ensures ∙ c.in_ok-items.ensures.items;
  turned = c.args.body.states.items;
  states = c.requires.turned.turned;
  body = c.from_vec-2.ensures ∙ c.in_ok-states.ensures.states;
}
