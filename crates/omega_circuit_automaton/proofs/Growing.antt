-- The edges of a state, one cube after the other, and the valuations that they add.
use Rattle.std.proofs.Common.{◌≡◌, ℕ, zero, suc, ◌+◌, ◌<◌, ◌≤◌, Bool, true, false, List, [], ◌∷◌, ◌++◌, length, get_or, refl, sym, ap, ◌∙◌, subst, arith}
use Rattle.std.specs.Prelude.{All, replicate, slice_set, sum_by}
use Rattle.std.specs.Cmp.Lexicographic.{pointwise}
use mathlib.Core.Bool.{beq}
use Rattle.std.proofs.lemmas.Bool.{false≢true}
use Rattle.std.proofs.lemmas.List.{append_assoc, get_or_append_left, length-append, length-set}
use Rattle.std.proofs.lemmas.List.Elements.{All-append, All-push}
use Rattle.std.proofs.lemmas.List.Sums.{sum_by-append, sum_by-cons, sum_by_push}
use Rattle.std.proofs.lemmas.Slice.Zip.{all_zipped_more}
use Rattle.omega_hoa_syntax.specs.declared.raw_edge.RawEdge.{RawEdge}
use Rattle.omega_circuit.specs.Circuit.{CircuitValue}
use Rattle.omega_circuit_automaton.specs.declared.ternary.Ternary.{Ternary}
use Rattle.omega_circuit_automaton.specs.declared.ternary.Ternary.TheVariants.{False, True, Unknown}
use Rattle.omega_circuit_automaton.specs.private.Cuts.{AddsValuations, AreEnds, Cut, IsCutOf, fits, one_if, valuation_at, weight}
use Rattle.omega_circuit_automaton.specs.private.Ternary.{ternary_at}
use Rattle.omega_circuit_automaton.specs.private.Written.{IsEdgeWith, IsSplitting, IsWrittenCut}
use Rattle.omega_circuit_automaton.proofs.Cubes.{half_weight, halves_counted, weight_some}

nothing_more : {X : Type 0} (xs : List X) → xs ++ [] ≡ xs
nothing_more [] = refl
nothing_more (x ∷ xs) = ap (λ (ys : List _). x ∷ ys) (nothing_more xs)

-- what holds of all of a list with one more
front_of : {X : Type 0} (P : X → Type 0) (xs ys : List X) → All P (xs ++ ys) → All P xs
front_of P xs ys all k d within =
    let e = length-append xs ys in
    subst P (get_or_append_left xs ys d k within) (all k d (omega (arith, e, within)))

last_of : {X : Type 0} (P : X → Type 0) (xs : List X) (x : X) → All P (xs ++ x ∷ []) → P x
last_of P [] x all = all 0 x (omega arith)
last_of P (y ∷ ys) x all = last_of P ys x (λ k d within. all (suc k) d (omega (arith, within)))

-- valuations that are added
pub adds_none : (count : ℕ) (old : List (List Bool)) → AddsValuations count old old
adds_none count old = record { more = []; behind = sym (nothing_more old); long = λ k d within. absurd (omega (arith, within)) }

pub adds_both : (count : ℕ) (one two three : List (List Bool)) → AddsValuations count one two → AddsValuations count two three → AddsValuations count one three
adds_both count one two three first second = record {
  more = first.more ++ second.more;
  behind = second.behind ∙ ap (λ (xs : List (List Bool)). xs ++ second.more) first.behind ∙ append_assoc one first.more second.more;
  long = All-append (λ (valuation : List Bool). length valuation ≡ count) first.more second.more first.long second.long;
}

pub longer : (count : ℕ) (old new : List (List Bool)) → AddsValuations count old new → length old ≤ length new
longer count old new adds = let e = ap length adds.behind ∙ length-append old adds.more in omega (arith, e)

pub same_valuation : (count : ℕ) (old new : List (List Bool)) → AddsValuations count old new → (number : ℕ) → number < length old → valuation_at new number ≡ valuation_at old number
same_valuation count old new adds number low = ap (λ (xs : List (List Bool)). get_or xs number []) adds.behind ∙ get_or_append_left old adds.more [] number low

module _ (c : CircuitValue) (count : ℕ) (old new : List (List Bool)) (adds : AddsValuations count old new) (latches : List Bool) where
  cut_kept : (cut : Cut) → IsCutOf c old latches cut → IsCutOf c new latches cut
  cut_kept cut is = record {
    long = is.long;
    low = omega (arith, is.low, longer count old new adds);
    ends = subst (AreEnds c latches cut.cube cut.outputs) (sym (same_valuation count old new adds cut.target is.low)) is.ends;
  }

  pub splitting_kept : (pending : List (List Ternary)) (raw : List RawEdge) → IsSplitting c old latches pending raw → IsSplitting c new latches pending raw
  splitting_kept pending raw s = record {
    cuts = s.cuts;
    written = s.written;
    right = λ k d within. cut_kept (get_or s.cuts k d) (s.right k d within);
    long = s.long;
    once = s.once;
  }

-- the edge of a cube
pub edge_more : (c : CircuitValue) (valuations : List (List Bool)) (latches : List Bool) (pending : List (List Ternary)) (cube : List Ternary) (outputs nexts : List Bool)
    (raw : List RawEdge) (edge : RawEdge) → IsSplitting c valuations latches (pending ++ cube ∷ []) raw → AreEnds c latches cube outputs nexts → IsEdgeWith cube outputs nexts valuations edge
    → IsSplitting c valuations latches pending (raw ++ edge ∷ [])
edge_more c valuations latches pending cube outputs nexts raw edge s ends e =
    let cut : Cut = record { cube = cube; outputs = outputs; target = e.target } in
    record {
      cuts = s.cuts ++ cut ∷ [];
      written = all_zipped_more IsWrittenCut s.cuts raw cut edge s.written e.written;
      right = All-push (IsCutOf c valuations latches) s.cuts cut s.right (record {
        long = last_of (λ (x : List Ternary). length x ≡ length c.inputs) pending cube s.long;
        low = e.low;
        ends = subst (AreEnds c latches cube outputs) (sym e.is) ends;
      });
      long = front_of (λ (x : List Ternary). length x ≡ length c.inputs) pending (cube ∷ []) s.long;
      once = λ letter.
          let before = s.once letter in
          let cuts = sum_by_push (λ (x : Cut). one_if (fits x.cube letter)) s.cuts cut in
          let cubes = sum_by_push (λ (x : List Ternary). one_if (fits x letter)) pending cube in
          omega (arith, before, cuts, cubes);
    }

-- both halves of a cube
two : {X : Type 0} (f : X → ℕ) (xs : List X) (x y : X) → sum_by f (xs ++ x ∷ y ∷ []) ≡ sum_by f xs + (f x + f y)
two f xs x y =
    let all = sum_by-append f xs (x ∷ y ∷ []) in
    let one = sum_by-cons f x (y ∷ []) in
    let other = sum_by-cons f y [] in
    let none : sum_by f [] ≡ 0 = refl in
    omega (arith, all, one, other, none)

pub halves_more : (c : CircuitValue) (valuations : List (List Bool)) (latches : List Bool) (pending : List (List Ternary)) (cube : List Ternary) (raw : List RawEdge) (k : ℕ)
    → IsSplitting c valuations latches (pending ++ cube ∷ []) raw → k < length cube → ternary_at cube k ≡ Unknown
    → IsSplitting c valuations latches (pending ++ slice_set cube k True ∷ slice_set cube k False ∷ []) raw
halves_more c valuations latches pending cube raw k s low is =
    let P : List Ternary → Type 0 = λ x. length x ≡ length c.inputs in
    let own : length cube ≡ length c.inputs = last_of P pending cube s.long in
    let upper : List Ternary = slice_set cube k True in
    let lower : List Ternary = slice_set cube k False in
    record {
      cuts = s.cuts;
      written = s.written;
      right = s.right;
      long = All-append P pending (upper ∷ lower ∷ []) (front_of P pending (cube ∷ []) s.long)
          (All-push P (upper ∷ []) lower (All-push P [] upper (λ j d within. absurd (omega (arith, within))) (length-set cube k True ∙ own)) (length-set cube k False ∙ own));
      once = λ letter.
          let before = s.once letter in
          let cubes = sum_by_push (λ (x : List Ternary). one_if (fits x letter)) pending cube in
          let both = two (λ (x : List Ternary). one_if (fits x letter)) pending upper lower in
          let halves = halves_counted cube k letter low is in
          omega (arith, before, cubes, both, halves);
    }

pub halves_lighter : (pending : List (List Ternary)) (cube : List Ternary) (k : ℕ) → k < length cube → ternary_at cube k ≡ Unknown
    → sum_by weight (pending ++ slice_set cube k True ∷ slice_set cube k False ∷ []) < sum_by weight pending + weight cube
halves_lighter pending cube k low is =
    let both = two weight pending (slice_set cube k True) (slice_set cube k False) in
    let upper = half_weight cube k true low is in
    let lower = half_weight cube k false low is in
    let some = weight_some cube in
    omega (arith, both, upper, lower, some)

-- the cube of all letters
whole_fits : (count : ℕ) (letter : ℕ → Bool) → fits (replicate count Unknown) letter ≡ true
whole_fits zero letter = refl
whole_fits (suc count) letter = whole_fits count (λ k. letter (suc k))

whole_long : (count : ℕ) → length (replicate count Unknown) ≡ count
whole_long zero = refl
whole_long (suc count) = ap suc (whole_long count)

pub splitting_none : (c : CircuitValue) (valuations : List (List Bool)) (latches : List Bool) → IsSplitting c valuations latches (replicate (length c.inputs) Unknown ∷ []) []
splitting_none c valuations latches = record {
  cuts = [];
  written = tt;
  right = λ k d within. absurd (omega (arith, within));
  long = All-push (λ (x : List Ternary). length x ≡ length c.inputs) [] (replicate (length c.inputs) Unknown) (λ j d within. absurd (omega (arith, within))) (whole_long (length c.inputs));
  once = λ letter.
      let one = sum_by-cons (λ (x : List Ternary). one_if (fits x letter)) (replicate (length c.inputs) Unknown) [] in
      let whole : one_if (fits (replicate (length c.inputs) Unknown) letter) ≡ 1 = ap one_if (whole_fits (length c.inputs) letter) in
      let none : sum_by (λ (x : List Ternary). one_if (fits x letter)) [] ≡ 0 = refl in
      let empty : sum_by (λ (x : Cut). one_if (fits x.cube letter)) [] ≡ 0 = refl in
      omega (arith, one, whole, none, empty);
}

-- lists of values that are compared
pub same_flags : (one other : List Bool) → pointwise beq one other ≡ true → one ≡ other
same_flags [] [] h = refl
same_flags [] (y ∷ ys) h = absurd (false≢true h)
same_flags (x ∷ xs) [] h = absurd (false≢true h)
same_flags (true ∷ xs) (true ∷ ys) h = ap (λ (zs : List Bool). true ∷ zs) (same_flags xs ys h)
same_flags (true ∷ xs) (false ∷ ys) h = absurd (false≢true h)
same_flags (false ∷ xs) (true ∷ ys) h = absurd (false≢true h)
same_flags (false ∷ xs) (false ∷ ys) h = ap (λ (zs : List Bool). false ∷ zs) (same_flags xs ys h)
