-- The bytes are unpacked one by one.
use Rattle.std.proofs.Common.{rules}
use Rattle.omega_hoa_label.proofs.CodeLemmas.{unpacked_more}
use Rattle.omega_hoa_label.proofs.codes.unpack.Goals as goal

pub loop-at-preserved : goal.loop-at-preserved
loop-at-preserved c = search (rules, unpacked_more)
