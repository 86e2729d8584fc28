-- Bare texts are as long as the texts.
use Rattle.std.proofs.Common.{◌≡◌, ℕ, suc, List, [], ◌∷◌, length, refl, ap, ◌∙◌}
use Rattle.omega_pg_lenient.specs.Laws.{PlainTextsKeepPlaces}
use Rattle.omega_pg_lenient.specs.Plain.{plain_text}
use Rattle.omega_pg_lenient.specs.SolutionLines.{bare_from, place_after, place_in_line}
use Rattle.omega_pg_lenient.specs.SolutionText.{BareTextsKeepPlaces}
use Rattle.omega_pg_lenient.specs.declared.line_place.LineContext.TheVariants.{Between}
use Rattle.omega_pg_lenient.specs.declared.line_place.LinePlace.{LinePlace}

-- each byte has one that stands for it
bare_from-length : (place : LinePlace) (bytes : List ℕ) → length (bare_from place bytes) ≡ length bytes
bare_from-length place [] = refl
bare_from-length place (byte ∷ rest) = ap suc (bare_from-length (place_after place.context place.numbers byte rest) rest)

pub bare_places_kept : PlainTextsKeepPlaces → BareTextsKeepPlaces
bare_places_kept kept source = bare_from-length (place_in_line Between 0) (plain_text source) ∙ kept source
