-- The label of a valuation is true in that valuation alone.
use Rattle.std.proofs.Common.{◌≡◌, ◌↔◌, ℕ, Bool, true}
use Rattle.omega_hoa_label.specs.Label.{truth}
use Rattle.omega_lang_runs.specs.Words.{IsValuation}
use Rattle.omega_hoa_edges.proofs.Bits as bits
use Rattle.omega_hoa_edges.specs.Labels.{valuation_label}

pub valuation_true : (index count : ℕ) (held : ℕ → Bool) → (truth held (valuation_label index count) ≡ true) ↔ IsValuation count index held
valuation_true index count held = (bits.valuation_held held index count, bits.valuation_true held index count)
