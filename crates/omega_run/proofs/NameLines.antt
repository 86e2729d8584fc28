-- The lines on names, one after another.
use Rattle.std.proofs.Common.{◌≡◌, ◌++◌, ◌+◌, ◌<◌, ◌∙◌, ℕ, List, [], ◌∷◌, ap, sym, take, length, get_or, append-nil}
use Rattle.std.proofs.lemmas.List.{take_more}
use Rattle.std.proofs.lemmas.Grind.{flat_map-append}
use Rattle.omega_run.specs.FormulaRun.{name_line, name_lines}

-- after the lines for the names before one comes its own
pub lines_more : (names : List (List ℕ)) (place : ℕ) (name : List ℕ) → place < length names → name ≡ get_or names place name
    → name_lines (take (place + 1) names) ≡ name_lines (take place names) ++ name_line name
lines_more names place name below is =
    ap name_lines (take_more names place name below ∙ ap (λ (last : List ℕ). take place names ++ last ∷ []) (sym is))
    ∙ flat_map-append name_line (take place names) (name ∷ [])
    ∙ ap (λ (last : List ℕ). name_lines (take place names) ++ last) (append-nil (name_line name))
