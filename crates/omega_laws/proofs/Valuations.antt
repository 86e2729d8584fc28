-- Labels of valuations fit a text, if there are few propositions.
use Rattle.std.proofs.Common.{◌≡◌, ◌==◌, ℕ, zero, suc, ◌+◌, ◌*◌, ◌<◌, ◌≤◌, ◌/◌, ◌%◌, ◌^◌, Bool, true, false, nat_le, nat_lt, if◌then◌else◌, [], All, refl, ap, arith}
use Rattle.std.proofs.lemmas.List.Elements.{All-append, All-cons, All-nil}
use Rattle.omega_hoa_label.specs.Label.{LabelTree, label_depth, label_size, negation, proposition, propositions}
use Rattle.omega_hoa_label.specs.Raw.{raw_depth}
use Rattle.omega_hoa_label.specs.Writing.{grouped, label_text, label_written}
use Rattle.omega_hoa_edges.specs.Labels.{literal, valuation_label}

-- a label over propositions below a count, with bounds for depth and size
pub record IsBounded (count depth size : ℕ) (label : LabelTree) : Type 0 where
  pub below : All (λ number. number < count) (propositions label)
  pub shallow : label_depth label ≤ depth
  pub shallow_written : raw_depth (label_written label) ≤ depth
  pub small : label_size label ≤ size

-- a literal
record IsLiteral (count : ℕ) (label : LabelTree) : Type 0 where
  is : IsBounded count 2 2 label
  rank : (label_text label).rank ≡ 3

literal_is : (count index p : ℕ) → p < count → IsLiteral count (literal index p)
literal_is count index p below = go ((index / 2 ^ p) % 2 == 1)
  where
    go : (b : Bool) → IsLiteral count (if b then proposition p else negation (proposition p))
    go true = record {
      is = record {
        below = All-cons (λ number. number < count) p [] below (All-nil (λ number. number < count));
        shallow = omega arith;
        shallow_written = omega arith;
        small = omega arith;
      };
      rank = refl;
    }
    go false = record {
      is = record {
        below = All-cons (λ number. number < count) p [] below (All-nil (λ number. number < count));
        shallow = omega arith;
        shallow_written = omega arith;
        small = omega arith;
      };
      rank = refl;
    }

-- a label of a valuation
record IsValuation (count index p : ℕ) : Type 0 where
  is : IsBounded count (p + 2) (3 * p + 2) (valuation_label index p)
  tight : nat_lt (label_text (valuation_label index p)).rank 2 ≡ false

valuation_is : (count index p : ℕ) → p ≤ count → IsValuation count index p
valuation_is count index zero few = record {
  is = record { below = All-nil (λ number. number < count); shallow = omega arith; shallow_written = omega arith; small = omega arith };
  tight = refl;
}
valuation_is count index (suc zero) few =
    let one = literal_is count index 0 (omega (arith, few)) in
    record {
      is = record {
        below = one.is.below;
        shallow = omega (arith, one.is.shallow);
        shallow_written = omega (arith, one.is.shallow_written);
        small = omega (arith, one.is.small);
      };
      tight = ap (λ (rank : ℕ). nat_lt rank 2) one.rank;
    }
valuation_is count index (suc (suc p)) few =
    let rest = valuation_is count index (suc p) (omega (arith, few)) in
    let one = literal_is count index (suc p) (omega (arith, few)) in
    let left : LabelTree = valuation_label index (suc p) in
    let right : LabelTree = literal index (suc p) in
    let first : grouped (nat_lt (label_text left).rank 2) (label_written left) ≡ label_written left = ap (λ (b : Bool). grouped b (label_written left)) rest.tight in
    let second : grouped (nat_le (label_text right).rank 2) (label_written right) ≡ label_written right =
    ap (λ (rank : ℕ). grouped (nat_le rank 2) (label_written right)) one.rank in
    record {
      is = record {
        below = All-append (λ number. number < count) (propositions left) (propositions right) rest.is.below one.is.below;
        shallow = omega (arith, rest.is.shallow, one.is.shallow);
        shallow_written = omega (arith, rest.is.shallow_written, one.is.shallow_written, ap raw_depth first, ap raw_depth second);
        small = omega (arith, rest.is.small, one.is.small);
      };
      tight = refl;
    }

pub valuation_bounded : (count index : ℕ) → IsBounded count (count + 2) (3 * count + 2) (valuation_label index count)
valuation_bounded count index = (valuation_is count index count (omega arith)).is
