-- The truth tables of labels over the propositions below six, and of those below twelve.
use Rattle.std.specs.Prelude.{◌≡◌, ℕ, ◌<◌, ◌/◌, ◌%◌, Bool, true, ◌==◌, nat_lt, get_or, length}
use Rattle.std.specs.Int.{bit_at}
use Rattle.std.specs.List.{list_all}
use Rattle.omega_hoa_label.specs.Label.{LabelTree, propositions, truth}
use Rattle.omega_hoa_satisfiable.specs.declared.tables.TruthTable.{TruthTable}
use Rattle.omega_hoa_satisfiable.specs.declared.wide_table.WideTable.{WideTable}

-- the valuation with a number: a proposition holds if its bit of the number is set
abbrev pub valuation : ℕ → ℕ → Bool
valuation number proposition = bit_at number proposition == 1

-- a label mentions no proposition from six on
abbrev pub MentionsFew : LabelTree → Type 0
MentionsFew tree = list_all (λ number. nat_lt number 6) (propositions tree) ≡ true

-- the truth table of a label: its bit k says whether the label is true under the valuation k
pub record IsTruthTable (tree : LabelTree) (table : TruthTable) : Type 0 where
  pub few : MentionsFew tree
  pub agrees : (number : ℕ) → number < 64
      → (bit_at table.bits number == 1) ≡ truth (valuation number) tree

-- a label mentions no proposition from twelve on
abbrev pub MentionsLow : LabelTree → Type 0
MentionsLow tree = list_all (λ number. nat_lt number 12) (propositions tree) ≡ true

-- its truth table, 64 valuations a word
pub record IsWideTable (tree : LabelTree) (table : WideTable) : Type 0 where
  pub low : MentionsLow tree
  pub counted : length table.words.items ≡ 64
  pub agrees : (number : ℕ) → number < 4096
      → valuation (get_or table.words.items (number / 64) 0) (number % 64) ≡ truth (valuation number) tree
