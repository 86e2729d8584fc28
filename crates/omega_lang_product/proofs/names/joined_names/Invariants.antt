-- the names of the first, and those so far that are not among them
use Rattle.std.proofs.Common.{◌≡◌, ◌++◌, ℕ, List, not, filter, take}
use Rattle.std.specs.List.{list_any}
use Rattle.std.specs.Str.{bytes_eq}
use Rattle.omega_lang_product.proofs.names.joined_names.Given as goal

abbrev pub invariant-loop-name : goal.invariant-loop-name
invariant-loop-name l = l.joined.items ≡ l.names ++ filter (λ (name : List ℕ). not (list_any (bytes_eq name) l.names)) (take l.name-index l.others)
