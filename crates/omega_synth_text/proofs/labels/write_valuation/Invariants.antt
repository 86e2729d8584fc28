-- the valuation of the propositions so far
use Rattle.std.proofs.Common.{◌≡◌, ◌++◌}
use Rattle.omega_hoa_edges.specs.Labels.{valuation_label}
use Rattle.omega_synth_text.specs.private.Texts.{bytes_of}
use Rattle.omega_synth_text.proofs.labels.write_valuation.Given as goal

abbrev pub invariant-loop-p : goal.invariant-loop-p
invariant-loop-p l = l.out.items ≡ l.fn.out.items ++ bytes_of (valuation_label l.index l.p)
