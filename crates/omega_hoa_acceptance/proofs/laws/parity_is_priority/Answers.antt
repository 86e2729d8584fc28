-- The formula holds where the greatest priority is even.
use Rattle.std.proofs.Common.{eq-eqb, ◌%◌, map, sym, ◌∙◌}
use Rattle.std.proofs.lemmas.Bool.{eqb-true}
use Rattle.omega_hoa_parity_kind.specs.Priority.{greatest_number, priority_of}
use Rattle.omega_hoa_acceptance.proofs.kinds.KindLemmas.{accepts-greatest}
use Rattle.omega_hoa_acceptance.proofs.laws.parity_is_priority.Goals as goal

pub returns : goal.returns
returns c = λ kind forever more within.
    let same = accepts-greatest kind.order kind.parity kind.count forever more within in
    (λ is. eqb-true (greatest_number (map (priority_of kind) forever) % 2) 0 (sym same ∙ is), λ even. same ∙ eq-eqb _ 0 even)
