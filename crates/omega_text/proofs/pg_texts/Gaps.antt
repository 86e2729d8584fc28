-- White space between tokens.
use Rattle.std.proofs.Common.{◌≡◌, ℕ, ◌+◌, ◌-◌, ◌<◌, ◌≤◌, inl, inr, true, false, List, length, get_or, drop, sym, ap, ◌∙◌, subst, arith, length-drop}
use Rattle.std.proofs.lemmas.Bool.{cases_lt}
use Rattle.std.proofs.lemmas.List.{get_or-drop, get_or_default}
use Rattle.std.proofs.lemmas.List.Sums.{prefix_len-le-length, prefix_len_passes, prefix_len_stops}
use Rattle.std.specs.List.{prefix_len}
use Rattle.omega_text.specs.Bytes.{is_white}
use Rattle.omega_text.specs.pg.Cut.{IsGap}

module _ (source : List ℕ) (from : ℕ) (inside : from ≤ length source) where
  -- a run of white bytes is a gap
  pub run_gap : IsGap source from (from + prefix_len is_white (drop from source))
  run_gap =
      let short = prefix_len-le-length is_white (drop from source) in
      let size = length-drop from source in
      record {
        forward = omega arith;
        within = omega arith;
        white = λ k d low high.
            let place : from + (k - from) ≡ k = omega arith in
            ap (λ n. is_white (get_or source n d)) (sym place) ∙ sym (ap is_white (get_or-drop from source (k - from) d)) ∙ prefix_len_passes is_white (drop from source) (k - from) d (omega arith);
      }

  -- and the byte after it is not white
  pub run_black : from + prefix_len is_white (drop from source) < length source → is_white (get_or source (from + prefix_len is_white (drop from source)) 0) ≡ false
  run_black more =
      let size = length-drop from source in
      sym (ap is_white (get_or-drop from source (prefix_len is_white (drop from source)) 0)) ∙ prefix_len_stops is_white (drop from source) 0 (omega arith)

-- no byte is a gap
pub no_gap : (source : List ℕ) (from : ℕ) → from ≤ length source → IsGap source from from
no_gap source from inside = record {
  forward = omega arith;
  within = inside;
  white = λ k d low high. absurd (omega (arith, low, high));
}

-- a white byte after a gap
pub gap_more : (source : List ℕ) (from to : ℕ) → IsGap source from to → to < length source → is_white (get_or source to 0) ≡ true → IsGap source from (to + 1)
gap_more source from to gap inside white = record {
  forward = omega (arith, gap.forward);
  within = omega (arith, inside);
  white = λ k d low high. elim (cases_lt k to) [
    | inl before ↦ gap.white k d low before
    | inr past ↦
        let same : k ≡ to = omega (arith, past, high) in
        subst (λ at. is_white (get_or source at d) ≡ true) (sym same) (ap is_white (get_or_default source to d 0 inside) ∙ white)
  ];
}
