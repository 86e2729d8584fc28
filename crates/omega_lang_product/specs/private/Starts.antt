-- The pairs of two starts, and the header items that a product has for them.
use Rattle.std.specs.Prelude.{ℕ, List, map}
use Rattle.omega_hoa_syntax.specs.declared.raw_item.RawItem.{RawItem}
use Rattle.omega_lang_product.specs.Pairs.{Pair, starts_between, starts_with}
use Rattle.omega_lang_product.specs.Written.{raw_start}
use Rattle.omega_lang_product.specs.declared.starts.Starts.{Starts}

-- the pairs of a first and a second start
abbrev pub pairs_of : Starts → List Pair
pairs_of starts = starts_between starts.firsts.now starts.seconds.now

-- the items of these pairs
abbrev pub raw_starts : Starts → List RawItem
raw_starts starts = map (raw_start starts.found.now.keys) (pairs_of starts)

-- the items of the pairs of a state and a second start
abbrev pub raw_starts_with : Starts → ℕ → List RawItem
raw_starts_with starts first =
    map (raw_start starts.found.now.keys) (starts_with first starts.seconds.now)
