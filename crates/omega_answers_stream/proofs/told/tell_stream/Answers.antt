-- `tell_stream`: the answers are the texts of the items.
use Rattle.omega_answers_stream.proofs.Texts.{telling_of}
use Rattle.omega_answers_stream.proofs.told.tell_stream.Goals as goal

pub returns-clause-reported : goal.returns-clause-reported
returns-clause-reported g c =
    let reads = c.in_ok-asked.ensures.asked in
    record {
      text = reads.text;
      read = reads.read;
      end = reads.end;
      holds = rw c.text_of.ensures (telling_of g.T.ItemText.text reads.text c.in_ok-asked.asked reads.holds);
    }
