-- Names: the one that bytes begin with, or that they begin with none.
use Rattle.std.proofs.Common.{◌≡◌, ℕ, suc, ◌+◌, ◌<◌, ◌≤◌, inr, List, [], ◌∷◌, ◌++◌, length, get_or, take, drop, refl, sym, ap, ◌∙◌, subst, arith, length-take, length-take-le, length-append, length-drop}
use Rattle.std.proofs.lemmas.List.{at_drop_more, get_or-drop, get_or-take, get_or_append_left, get_or_push, take_more}
use Rattle.std.proofs.lemmas.List.Sums.{prefix_len-le-length, prefix_len_is, prefix_len_passes}
use Rattle.std.specs.List.{prefix_len}
use Rattle.omega_text.specs.pg.Fault.{BeginsNoForm}
use Rattle.omega_text.specs.pg.Forms.{IsLongest, IsQuoted, quoted, is_name_byte}
use Rattle.omega_text.proofs.pg_texts.Classes.{both_ways}
use Rattle.omega_text.proofs.pg_texts.Longest.{form_head, head, head-take, quoted_form}

-- the bytes of a name that is a front of bytes come after the first of them, and then a quote
pub record NamedFront (rest name : List ℕ) : Type 0 where
  pub room : length name < length rest
  pub same : (i : ℕ) → i < length name → get_or rest i 0 ≡ get_or name i 0
  pub closed : get_or rest (length name) 0 ≡ 34

-- a front that is a name between quotes
pub named_front : (count byte : ℕ) (rest name : List ℕ) → take count (byte ∷ rest) ≡ quoted name → NamedFront rest name
named_front count byte rest name is =
    let lengths : length (take count (byte ∷ rest)) ≡ length name + 2 = ap length is ∙ omega (arith, length-append name (34 ∷ [])) in
    let cut = length-take count (byte ∷ rest) in
    let long : length name + 1 < count = omega arith in
    let room : length name < length rest = omega arith in
    let at : (i : ℕ) → i ≤ length name → get_or rest i 0 ≡ get_or (name ++ 34 ∷ []) i 0 = λ i inside.
    let below : suc i < count = omega arith in
    sym (get_or-take count (byte ∷ rest) (suc i) 0 below) ∙ ap (λ text. get_or text (suc i) 0) is in
    record {
      room = room;
      same = λ i inside. at i (omega arith) ∙ get_or_append_left name (34 ∷ []) 0 i inside;
      closed = at (length name) (omega arith) ∙ get_or_push name 34 0 (length name) refl;
    }

-- a quote, a run of bytes of a name and a quote are a name
pub quoted_front : (rest : List ℕ) (count : ℕ) → count < length rest → get_or rest count 0 ≡ 34 → take (1 + count + 1) (34 ∷ rest) ≡ quoted (take count rest)
quoted_front rest count inside quote =
    let sum : 1 + count + 1 ≡ suc (count + 1) = omega arith in
    subst (λ n. take n (34 ∷ rest) ≡ quoted (take count rest)) (sym sum)
    (ap (λ text. 34 ∷ text) (take_more rest count 0 inside ∙ ap (λ b. take count rest ++ b ∷ []) quote))

-- such a name is the longest form at its place
pub longest_quoted : (rest : List ℕ) → prefix_len is_name_byte rest < length rest → get_or rest (prefix_len is_name_byte rest) 0 ≡ 34 → IsLongest (34 ∷ rest) (1 + prefix_len is_name_byte rest + 1) × IsQuoted (take (1 + prefix_len is_name_byte rest + 1) (34 ∷ rest))
longest_quoted rest inside quote =
    let count = prefix_len is_name_byte rest in
    let name : IsQuoted (take (1 + count + 1) (34 ∷ rest)) = (
      take count rest,
      quoted_front rest count inside quote,
      λ k d below.
          let short = length-take-le count rest (prefix_len-le-length is_name_byte rest) in
          let before : k < count = omega arith in
          rw get_or-take (prefix_len_passes is_name_byte rest k d before),
    ) in (
      record {
        within = omega arith;
        form = inr (inr name);
        longest = λ more longer fits form.
            let longer_name = quoted_form (take more (34 ∷ rest)) form (head-take more (34 ∷ rest) (omega arith)) in
            let front = named_front more 34 rest longer_name.0 longer_name.1 in
            let lengths : length (take more (34 ∷ rest)) ≡ length longer_name.0 + 2 = ap length longer_name.1 ∙ omega (arith, length-append longer_name.0 (34 ∷ [])) in
            let fit = length-take-le more (34 ∷ rest) fits in
            let below : count < length longer_name.0 = omega arith in
            both_ways _ (longer_name.2 count 0 below) (ap is_name_byte (sym (front.same count below) ∙ quote));
      },
      name,
    )

-- bytes after a quote that no quote closes begin no form
pub no_quoted : (rest : List ℕ) → (prefix_len is_name_byte rest < length rest → get_or rest (prefix_len is_name_byte rest) 0 ≡ 34 → ⊥) → BeginsNoForm (34 ∷ rest)
no_quoted rest unclosed count form =
    let some = (form_head (take count (34 ∷ rest)) form).0 in
    let cut = length-take count (34 ∷ rest) in
    let name = quoted_form (take count (34 ∷ rest)) form (head-take count (34 ∷ rest) (omega arith)) in
    let front = named_front count 34 rest name.0 name.1 in
    let ends = prefix_len_is is_name_byte rest (length name.0) 0 (omega (arith, front.room)) (λ k below. ap is_name_byte (front.same k below) ∙ name.2 k 0 below) (λ _. ap is_name_byte front.closed) in
    unclosed (omega (arith, front.room)) (ap (λ n. get_or rest n 0) ends ∙ front.closed)

-- the same of bytes that begin with a quote
module _ (bytes : List ℕ) (some : 0 < length bytes) (quote : head bytes ≡ 34) where
  split : bytes ≡ 34 ∷ drop 1 bytes
  split = at_drop_more (λ text. text) bytes 0 0 some ∙ ap (λ b. b ∷ drop 1 bytes) quote

  -- a name that ends at a place
  pub longest_name : (close : ℕ) → close ≡ 1 + prefix_len is_name_byte (drop 1 bytes) → close < length bytes → get_or bytes close 0 ≡ 34 → IsLongest bytes (close + 1) × IsQuoted (take (close + 1) bytes)
  longest_name close is inside closed =
      let rest = drop 1 bytes in
      let count = prefix_len is_name_byte rest in
      let size = length-drop 1 bytes in
      let there : get_or rest count 0 ≡ 34 = get_or-drop 1 bytes count 0 ∙ ap (λ n. get_or bytes n 0) (sym is) ∙ closed in
      let name = longest_quoted rest (omega arith) there in
      subst (λ text. IsLongest text (close + 1) × IsQuoted (take (close + 1) text)) (sym split)
      (subst (λ n. IsLongest (34 ∷ rest) (n + 1) × IsQuoted (take (n + 1) (34 ∷ rest))) (sym is) name)

  -- no quote ends a name
  pub no_name : (close : ℕ) → close ≡ 1 + prefix_len is_name_byte (drop 1 bytes) → (close < length bytes → get_or bytes close 0 ≡ 34 → ⊥) → BeginsNoForm bytes
  no_name close is unclosed =
      let rest = drop 1 bytes in
      let count = prefix_len is_name_byte rest in
      let size = length-drop 1 bytes in
      subst BeginsNoForm (sym split) (no_quoted rest (λ inside there.
      unclosed (omega arith) (ap (λ n. get_or bytes n 0) is ∙ sym (get_or-drop 1 bytes count 0) ∙ there)))
