-- The law of the canonical texts of products.
use Rattle.std.specs.Prelude.{◌≤◌, length}
use Rattle.omega_text.specs.Limits.{most_text}
use Rattle.omega_hoa_automaton.specs.Automaton.{Description}
use Rattle.omega_canon.specs.Canonical.{canonical_automaton}
use Rattle.omega_hoa.specs.Alone.{IsAutomatonText}
use Rattle.omega_lang_product.specs.Limits.{IsWithin}
use Rattle.omega_lang_product.specs.Written.{IsWritten}
use Rattle.omega_hoa_round_trips.specs.Laws.{WasRead}

-- the canonical text of the product of two automata that were read is the text of that product, if it is within the
-- limit of texts
abbrev pub ProductsAreReadBack : Type 0
ProductsAreReadBack =
    (one other a : Description) → WasRead one → WasRead other → IsWritten one other a → IsWithin a
    → length (canonical_automaton a) ≤ most_text → IsAutomatonText (canonical_automaton a) a
