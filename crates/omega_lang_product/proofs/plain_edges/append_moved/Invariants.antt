-- the sets so far
use Rattle.std.proofs.Common.{◌≡◌, ◌+◌, ◌++◌, ℕ, map, take}
use Rattle.omega_lang_product.proofs.plain_edges.append_moved.Given as goal

abbrev pub invariant-loop-set : goal.invariant-loop-set
invariant-loop-set l = l.marks ≡ l.initial.marks ++ map (λ (set : ℕ). l.before + set) (take l.set-index l.sets)
