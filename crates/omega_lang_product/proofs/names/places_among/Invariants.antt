-- the places of the names so far
use Rattle.std.proofs.Common.{◌≡◌, ℕ, List, map, take}
use Rattle.std.specs.List.{position_or_len}
use Rattle.std.specs.Str.{bytes_eq}
use Rattle.omega_lang_product.proofs.names.places_among.Given as goal

abbrev pub invariant-loop-name : goal.invariant-loop-name
invariant-loop-name l = l.places.items ≡ map (λ (name : List ℕ). position_or_len (bytes_eq name) l.joined) (take l.name-index l.names)
