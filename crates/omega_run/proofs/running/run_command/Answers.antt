-- `run_command`: the text was read whole, and what is made of it was written.
use Rattle.std.proofs.Common.{rules}
use Rattle.omega_run.specs.Results.{with_bytes}
use Rattle.omega_run.specs.World.{streams_of}
use Rattle.omega_run.proofs.ReadWhole.{run_whole}
use Rattle.omega_run.proofs.running.run_command.Goals as goal

pub returns-in-Ok-read_all : goal.returns-in-Ok-read_all
returns-in-Ok-read_all g c =
    run_whole c.args.command.now c.args.budget c.args.other.now c.write_made.result (streams_of g.R.Input g.W.Output c.args.input.now c.args.output.now)
    (streams_of g.R.Input g.W.Output c.read_all.new.input c.write_made.new.output) c.in_default.not-Stream
    (record {
      input = c.as_slice-input.result.now;
      read = search rules;
      reads = search rules;
      made = with_bytes (λ made. made.items) c.answer-made.result;
      answer = c.answer-made.ensures.answer;
      written_so = c.write_made.ensures;
    })
