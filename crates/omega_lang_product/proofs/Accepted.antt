-- The acceptance of a product as it is written.
use Rattle.std.proofs.Common.{◌≡◌, inr, None, refl}
use Rattle.std.specs.Prelude.{Result, Ok, Err, IfOk}
use Rattle.omega_hoa_acceptance.specs.Writing.{acc_written}
use Rattle.omega_hoa_automaton.specs.Automaton.{Description}
use Rattle.omega_text.specs.declared.refusal.Refusal.{Refusal}
use Rattle.omega_lang_product.specs.Acceptance.{AreBuchi, conjoined_acceptance}
use Rattle.omega_lang_product.specs.Written.{IsAcceptanceWritten}
use Rattle.omega_lang_product.specs.declared.acceptance.WrittenAcceptance.{WrittenAcceptance}

pub conjoined_written : (one other : Description) (result : Result WrittenAcceptance Refusal)
    → (AreBuchi one other → ⊥) → IfOk result (λ written. written.name ≡ None)
    → IfOk result (λ written. written.formula ≡ acc_written (conjoined_acceptance one other))
    → IfOk result (λ written. IsAcceptanceWritten one other written.name written.formula)
conjoined_written one other (Ok written) others name formula = record {
  tree = conjoined_acceptance one other;
  joint = inr (record { others = others; name_is = name; formula_is = refl });
  written = formula;
}
conjoined_written one other (Err refusal) others name formula = tt
