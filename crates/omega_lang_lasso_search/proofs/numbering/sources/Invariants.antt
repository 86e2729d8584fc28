-- the numbers represent the first states of the lists before
use Rattle.std.proofs.Common.{◌≡◌, ◌<◌, length, map, nat_eq, take, All}
use Rattle.std.specs.List.{IsDistinct}
use Rattle.omega_lang_lasso_search.specs.private.Numbering.{Grows, name_in}
use Rattle.omega_lang_lasso_search.proofs.numbering.sources.Given as goal

abbrev pub invariant-loop-start : goal.invariant-loop-start
invariant-loop-start l =
    Grows l.start-index l.initial.met.keys l.met.keys
    × IsDistinct nat_eq l.met.keys
    × All (λ source. source < length l.met.keys) l.sources.items
    × (map (name_in l.met.keys) l.sources.items ≡ take l.start-index l.starts)
