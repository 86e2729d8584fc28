-- A text that is one segment, and nothing more.
use Rattle.std.proofs.Common.{arith}
use Rattle.omega_text.specs.hoa.Format.{hoa_format}
use Rattle.omega_text.proofs.formats.Cutting.{cuts_forward}
use Rattle.omega_hoa.proofs.alone.read_at_once.Goals as goal

pub ends_after-requires : goal.ends_after-requires
ends_after-requires c =
    let begun = c.in_ok-automaton.ensures in
    (cuts_forward hoa_format c.goes_on_one_way.ensures c.args.bytes.now 0 c.in_ok-automaton.end begun.lexemes (omega arith) begun.cuts).1
