-- Words over names of propositions.
use Rattle.std.specs.Prelude.{◌≡◌, ◌<◌, ◌≤◌, ◌+◌, ℕ, Bool, List}

-- a word over names says for each index and each name whether the proposition of that name holds there
abbrev pub NamedWord : Type 0
NamedWord = ℕ → List ℕ → Bool

-- from some index on such a word repeats itself after a period, as far as some names go
pub record RepeatsItself (IsSeen : List ℕ → Type 0) (word : NamedWord) : Type 0 where
  pub start : ℕ
  pub period : ℕ
  pub some : 0 < period
  pub repeats : (i : ℕ) (name : List ℕ) → start ≤ i → IsSeen name → word (i + period) name ≡ word i name

-- the word is ultimately periodic
abbrev pub IsPeriodic : NamedWord → Type 0
IsPeriodic = RepeatsItself (λ name. Unit {0})
