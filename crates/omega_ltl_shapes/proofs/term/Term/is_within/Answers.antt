-- what is missing, or nothing
use Rattle.std.proofs.Common.{◌≡◌, false, true, sym}
use Rattle.std.proofs.lemmas.Bool.{both_ways, false≢true}
use Rattle.omega_ltl_shapes.proofs.ItemLemmas.{has_items_same}
use Rattle.omega_ltl_shapes.proofs.term.Term.is_within.Goals as goal

pub returns-then-not-is_within : goal.returns-then-not-is_within
returns-then-not-is_within c =
    let lacks : c.is_within.result ≡ false = cc in
    (λ h. absurd (false≢true h), λ w. absurd (both_ways c.is_within.result lacks (c.is_within.ensures.1 w.literals)))

pub returns-then-not-has_bits_of : goal.returns-then-not-has_bits_of
returns-then-not-has_bits_of c =
    let lacks : c.has_bits_of.result ≡ false = cc in
    (λ h. absurd (false≢true h), λ w. absurd (both_ways c.has_bits_of.result lacks (c.has_bits_of.ensures.1 w.late)))

pub returns : goal.returns
returns c =
    let literals : c.is_within.result ≡ true = cc in
    let late : c.has_bits_of.result ≡ true = cc in (
      λ h. record {
        literals = c.is_within.ensures.0 literals;
        next = has_items_same c.as_slice-2.result.now c.args.self.now.next c.as_slice.result.now c.args.other.now.next c.as_slice-2.ensures c.as_slice.ensures (c.has_items.ensures.0 h);
        late = c.has_bits_of.ensures.0 late;
      },
      λ w. c.has_items.ensures.1 (has_items_same c.args.self.now.next c.as_slice-2.result.now c.args.other.now.next c.as_slice.result.now (sym c.as_slice-2.ensures) (sym c.as_slice.ensures) w.next),
    )
