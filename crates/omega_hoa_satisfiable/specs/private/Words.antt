-- A label's truth under 64 valuations at once, in the bits of a word, and how high its nodes' words stack up.
use Rattle.std.specs.Prelude.{ℕ, ◌+◌, ◌-◌, suc, Bool, true, ◌==◌, nat_lt, if◌then◌else◌}
use Rattle.std.specs.Prelude.{List, [], ◌∷◌, max, bit_and, bit_or, bit_xor}
use Rattle.std.specs.Int.{bit_at}
use Rattle.omega_hoa_label.specs.Label.{LabelTree, conjunction, constant, disjunction, negation, proposition}
use Rattle.omega_hoa_label.specs.declared.label.LabelNode.{LabelNode}
use Rattle.omega_hoa_label.specs.declared.label.LabelNode.TheVariants.{Alias, And, Constant, Group}
use Rattle.omega_hoa_label.specs.declared.label.LabelNode.TheVariants.{Not, Or, Proposition}

-- the word of all ones
abbrev pub ones : ℕ
ones = 18446744073709551615

-- the word of a truth value
abbrev pub word_of_truth : Bool → ℕ
word_of_truth value = if value then ones else 0

-- the propositions of nodes
abbrev pub propositions_of : List LabelNode → List ℕ
propositions_of [] = []
propositions_of (Constant value ∷ nodes) = propositions_of nodes
propositions_of (Proposition number ∷ nodes) = number ∷ propositions_of nodes
propositions_of (Not ∷ nodes) = propositions_of nodes
propositions_of (And ∷ nodes) = propositions_of nodes
propositions_of (Or ∷ nodes) = propositions_of nodes
propositions_of (Alias count ∷ nodes) = propositions_of nodes
propositions_of (Group ∷ nodes) = propositions_of nodes

-- whether a node is no proposition from six on
abbrev pub is_few : LabelNode → Bool
is_few (Proposition number) = nat_lt number 6
is_few other = true

-- whether a node is no proposition from twelve on
abbrev pub is_low : LabelNode → Bool
is_low (Proposition number) = nat_lt number 12
is_low other = true

-- the first twelve propositions
abbrev pub twelve : List ℕ
twelve = 0 ∷ 1 ∷ 2 ∷ 3 ∷ 4 ∷ 5 ∷ 6 ∷ 7 ∷ 8 ∷ 9 ∷ 10 ∷ 11 ∷ []

-- the word of a label, if each proposition has a word
abbrev pub word_of : (ℕ → ℕ) → LabelTree → ℕ
word_of words (constant value) = word_of_truth value
word_of words (proposition number) = words number
word_of words (negation part) = bit_xor (word_of words part) ones
word_of words (conjunction left right) = bit_and (word_of words left) (word_of words right)
word_of words (disjunction left right) = bit_or (word_of words left) (word_of words right)

-- the word on top, or 0 if there is none
abbrev pub top_word : List ℕ → ℕ
top_word [] = 0
top_word (word ∷ words) = word

-- the words below the top
abbrev pub words_below : List ℕ → List ℕ
words_below [] = []
words_below (word ∷ words) = words

-- the words that a node leaves of those before it
abbrev pub words_with : (ℕ → ℕ) → List ℕ → LabelNode → List ℕ
words_with words stack (Constant value) = word_of_truth value ∷ stack
words_with words stack (Proposition number) = words number ∷ stack
words_with words stack Not = bit_xor (top_word stack) ones ∷ words_below stack
words_with words stack And =
    bit_and (top_word (words_below stack)) (top_word stack) ∷ words_below (words_below stack)
words_with words stack Or =
    bit_or (top_word (words_below stack)) (top_word stack) ∷ words_below (words_below stack)
words_with words stack (Alias count) = stack
words_with words stack Group = stack

-- the words that nodes leave of those before them
abbrev pub words_after : (ℕ → ℕ) → List ℕ → List LabelNode → List ℕ
words_after words stack [] = stack
words_after words stack (next ∷ nodes) = words_after words (words_with words stack next) nodes

-- the number of words on the stack after a node
abbrev pub height_with : ℕ → LabelNode → ℕ
height_with height (Constant value) = height + 1
height_with height (Proposition number) = height + 1
height_with height Not = height - 1 + 1
height_with height And = height - 1 - 1 + 1
height_with height Or = height - 1 - 1 + 1
height_with height (Alias count) = height
height_with height Group = height

-- the greatest number of words on the stack at once
abbrev pub peak : ℕ → List LabelNode → ℕ
peak height [] = height
peak height (next ∷ nodes) = max height (peak (height_with height next) nodes)

-- the word whose bit i is bit k of i, for the six lowest bits
abbrev pub mask : ℕ → ℕ
mask place = if place == 0 then 12297829382473034410 else (if place == 1 then 14757395258967641292
    else (if place == 2 then 17361641481138401520 else (if place == 3 then 18374966859414961920
    else (if place == 4 then 18446462603027742720 else 18446744069414584320))))

-- the word of the proposition at a place, under the 64 valuations of a block:
-- the valuation's number has the bit of that place
abbrev pub pattern : ℕ → ℕ → ℕ
pattern block place =
    if nat_lt place 6 then mask place else word_of_truth (bit_at block (place - 6) == 1)

-- the word of a proposition among some, if the first has this place; 0 if it is not among them
abbrev pub word_among : ℕ → ℕ → List ℕ → ℕ → ℕ
word_among block place [] number = 0
word_among block place (next ∷ rest) number =
    if next == number then pattern block place else word_among block (suc place) rest number
