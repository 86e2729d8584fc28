-- The counts of properties in a header.
use Rattle.std.proofs.Common.{◌≡◌, ℕ, ◌+◌, ◌-◌, ◌<◌, ◌≤◌, List, [], ◌∷◌, ◌++◌, drop, ap, ◌∙◌, arith}
use Rattle.omega_aiger.specs.Forms.{counts_end}
use Rattle.omega_aiger.specs.Layout.{Layout, byte, either, number}
use Rattle.omega_aiger.specs.private.Outcome.{GoesOn, outcome}
use Rattle.omega_aiger.proofs.Loops.{one_less}

module _ (text : List ℕ) (at k : ℕ) (read : List ℕ) (next : List ℕ → Layout) where
  -- what follows a space, where one more count may come
  abbrev more : Layout
  more = number (λ n. counts_end (4 - (k + 1)) (read ++ n ∷ []) next)

  left : k < 4 → outcome (counts_end (4 - k) read next) at (drop at text) ≡ outcome (either 32 more (byte 10 (next read))) at (drop at text)
  left within = ap (λ m. outcome (counts_end m read next) at (drop at text)) (one_less 4 k within)

  pub ends_here : k < 4 → ((first other : Layout) → GoesOn text at (either 32 first other) at other) → GoesOn text at (counts_end (4 - k) read next) at (byte 10 (next read))
  ends_here within skips = left within ∙ skips more (byte 10 (next read))

  pub goes_here : k < 4 → ((first other : Layout) → GoesOn text at (either 32 first other) (at + 1) first)
      → GoesOn text at (counts_end (4 - k) read next) (at + 1) (number (λ n. counts_end (4 - (k + 1)) (read ++ n ∷ []) next))
  goes_here within takes = left within ∙ takes more (byte 10 (next read))

  pub no_more : 4 ≤ k → GoesOn text at (counts_end (4 - k) read next) at (byte 10 (next read))
  no_more past = ap (λ m. outcome (counts_end m read next) at (drop at text)) (let e : 4 - k ≡ 0 = omega (arith, past) in e)
