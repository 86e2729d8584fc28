-- `left_by`: the streams are those of the texts, and no write failed.
use Rattle.std.proofs.Common.{◌≡◌, arith, refl}
use Rattle.omega.proofs.Runs.{asked_is, left_over}
use Rattle.omega.proofs.running.left_by.Goals as goal

pub returns-clause-run : goal.returns-clause-run
returns-clause-run c =
    let writes : c.status_of-status.new.output.failures ≡ 0 = omega arith in
    let tells : c.status_of-status.new.errors.failures ≡ 0 = omega arith in
    record {
      asked = c.asked_of-asked.result;
      read = asked_is c.args.words.now c.asked_of-asked.result c.asked_of-asked.ensures.asked c.asked_of-asked.ensures.memory;
      obeyed = left_over c.asked_of-asked.result c.status_of-status.result _ c.args.file.now c.args.input.now c.into_bytes.result.items c.into_bytes-2.result.items
          _ _ _ _ _ _ _ _ _ _ _ _
          c.new-files.ensures c.new-telling.ensures.bytes c.into_bytes-2.ensures c.new-telling.ensures.failures tells c.new-reading.ensures.bytes c.new-reading.ensures.failures
          c.new-reading.ensures.reason c.new-writing.ensures.bytes c.new-writing.ensures.failures refl c.into_bytes.ensures writes c.status_of-status.ensures;
    }
