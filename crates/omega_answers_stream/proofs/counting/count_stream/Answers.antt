-- `count_stream`: no item is refused, so all are counted.
use Rattle.std.proofs.Common.{◌≡◌, ℕ, [], false}
use Rattle.omega_hoa.specs.declared.item.Item.{Item}
use Rattle.omega_answers_stream.specs.Answer.{Answer}
use Rattle.omega_answers_stream.proofs.Texts.{counting_of}
use Rattle.omega_answers_stream.proofs.counting.count_stream.Goals as goal

pub returns-clause-counted : goal.returns-clause-counted
returns-clause-counted g c =
    let reads = c.in_ok-asked.ensures.asked in
    record {
      text = reads.text;
      read = reads.read;
      end = reads.end;
      holds = counting_of (λ (number : ℕ) (item : Item) (answer : Answer). (answer.text ≡ []) × (answer.no ≡ false)) reads.text c.in_ok-asked.asked reads.holds;
    }
