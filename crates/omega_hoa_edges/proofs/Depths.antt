-- Depths and sizes of labels, as they are and as they are written.
use Rattle.std.proofs.Common.{ℕ, ◌+◌, ◌<◌, ◌≤◌, max, Bool, true, false, nat_le, nat_lt, arith}
use Rattle.omega_hoa_expression.specs.Limits.{most_depth}
use Rattle.omega_hoa_label.specs.Writing.{label_text}
use Rattle.omega_hoa_label.specs.Writing.{grouped, label_written}
use Rattle.omega_hoa_label.specs.Label.{LabelTree, conjunction, constant, disjunction, label_depth, label_size, negation, proposition}
use Rattle.omega_hoa_label.specs.Raw.{RawLabelTree, raw_depth}
use Rattle.omega_hoa_label.specs.Shape.{FitsALabel}
use Rattle.omega_hoa_edges.specs.Fitting.{FitsAText}

-- parentheses add no less than nothing
grouped_deeper : (within : Bool) (raw : RawLabelTree) → raw_depth raw ≤ raw_depth (grouped within raw)
grouped_deeper true raw = omega arith
grouped_deeper false raw = omega arith

-- a label as it is written is as deep as the label, or deeper
pub written_deeper : (tree : LabelTree) → label_depth tree ≤ raw_depth (label_written tree)
written_deeper (constant value) = omega arith
written_deeper (proposition number) = omega arith
written_deeper (negation part) =
    let more = grouped_deeper (nat_lt (label_text part).rank 3) (label_written part) in
    omega (arith, written_deeper part, more)
written_deeper (conjunction left right) =
    more (label_depth left) (label_depth right) (raw_depth (label_written left)) (raw_depth (label_written right))
    (raw_depth (grouped (nat_lt (label_text left).rank 2) (label_written left))) (raw_depth (grouped (nat_le (label_text right).rank 2) (label_written right)))
    (written_deeper left) (written_deeper right) (grouped_deeper (nat_lt (label_text left).rank 2) (label_written left))
    (grouped_deeper (nat_le (label_text right).rank 2) (label_written right))
  where
    more : (a b c d e f : ℕ) → a ≤ c → b ≤ d → c ≤ e → d ≤ f → max a b + 1 ≤ max e f + 1
    more a b c d e f ac bd ce df = omega arith
written_deeper (disjunction left right) =
    more (label_depth left) (label_depth right) (raw_depth (label_written left)) (raw_depth (label_written right))
    (raw_depth (grouped (nat_lt (label_text left).rank 1) (label_written left))) (raw_depth (grouped (nat_le (label_text right).rank 1) (label_written right)))
    (written_deeper left) (written_deeper right) (grouped_deeper (nat_lt (label_text left).rank 1) (label_written left))
    (grouped_deeper (nat_le (label_text right).rank 1) (label_written right))
  where
    more : (a b c d e f : ℕ) → a ≤ c → b ≤ d → c ≤ e → d ≤ f → max a b + 1 ≤ max e f + 1
    more a b c d e f ac bd ce df = omega arith

-- a label that a text can have is a label
pub text_fits : (tree : LabelTree) → FitsAText tree → FitsALabel tree
text_fits tree fits =
    let deeper = written_deeper tree in record { shallow = omega (arith, deeper, fits.shallow); small = fits.small }

-- a label that is too deep or too large is so in a text too
pub unfit_text : (tree : LabelTree) → (FitsALabel tree → ⊥) → FitsAText tree → ⊥
unfit_text tree unfit fits = unfit (text_fits tree fits)

pub deep_text : (tree : LabelTree) → most_depth < raw_depth (label_written tree) → FitsAText tree → ⊥
deep_text tree deep fits = omega (arith, deep, fits.shallow)

both_within : (a b c d : ℕ) → a ≤ c → b ≤ d → max a b + 1 ≤ c + d + 1
both_within a b c d ac bd = omega arith

-- a label is no deeper than it has atoms and operators
pub depth_within : (tree : LabelTree) → label_depth tree ≤ label_size tree
depth_within (constant value) = omega arith
depth_within (proposition number) = omega arith
depth_within (negation part) = omega (arith, depth_within part)
depth_within (conjunction left right) = both_within (label_depth left) (label_depth right) (label_size left) (label_size right) (depth_within left) (depth_within right)
depth_within (disjunction left right) = both_within (label_depth left) (label_depth right) (label_size left) (label_size right) (depth_within left) (depth_within right)

-- two small labels together are neither too deep nor too large
pub small_fit : (one other : LabelTree) → label_size one ≤ 127 → label_size other ≤ 127 → FitsALabel (conjunction one other)
small_fit one other small small-other =
    let deep = depth_within (conjunction one other) in
    record { shallow = omega (arith, deep, small, small-other); small = omega (arith, small, small-other) }
