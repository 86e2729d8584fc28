-- What two items say of one name, proposition by proposition.
use Rattle.std.proofs.Common.{◌≡◌, ◌↔◌, ℕ, ◌+◌, ◌<◌, ◌≤◌, ◌⊎◌, inl, inr, Bool, true, false, ◌&&◌, not, List, Contains, IsTrue, Some, length, get_or, slice_get, refl, sym, ap, subst, ◌∙◌, arith, true≢false}
use Rattle.std.proofs.lemmas.Bool.{cases_lt}
use Rattle.std.specs.Str.{bytes_eq}
use Rattle.std.proofs.lemmas.Option.{slice_get_read, slice_get_within}
use Rattle.std.proofs.lemmas.Slice.Eq.{bytes_eq-Decides}
use Rattle.omega_graph.specs.Graph.{listed}
use Rattle.omega_answers_synth.proofs.Ranges.{has_listed, is_listed}
use Rattle.omega_answers_synth.specs.Parting.{AreAlike}
use Rattle.omega_answers_synth.specs.private.Alike.{AreAlikeBelow, IsAlike, IsAlikeBelow, is_unlike}

same_some : {X : Type 0} (x y : X) → Some x ≡ Some y → x ≡ y
same_some x y e = cc

split_last : (m n : ℕ) → m < n + 1 → (m < n) ⊎ (m ≡ n)
split_last m n less = elim (cases_lt m n) [
  | inl small ↦ inl small
  | inr large ↦ inr (omega (arith, large, less))
]

-- a flag is set exactly if a number is listed, if it is the same
pub same_flag : (numbers : List ℕ) (n : ℕ) (flag : Bool) → listed numbers n ≡ flag → IsTrue flag ↔ Contains numbers n
same_flag numbers n flag same = (λ set. has_listed numbers n (same ∙ set), λ has. sym same ∙ is_listed numbers n has)

-- else it is not
pub other_flag : (numbers : List ℕ) (n : ℕ) (flag : Bool) → ¬ (listed numbers n ≡ flag) → ¬ (IsTrue flag ↔ Contains numbers n)
other_flag numbers n true other both = other (is_listed numbers n (both.0 refl))
other_flag numbers n false other both = go (listed numbers n) refl
  where
    go : (b : Bool) → listed numbers n ≡ b → ⊥
    go true is = true≢false (sym (both.1 (has_listed numbers n is)))
    go false is = other is

module _ (name : List ℕ) (others : List (List ℕ)) (controlled : Bool) (also : List ℕ) where
  -- one proposition more: it has another name, or is controlled alike
  pub alike_more : (q : ℕ) (other : List ℕ) → slice_get others q ≡ Some other → (¬ (other ≡ name)) ⊎ (listed also q ≡ controlled)
      → IsAlikeBelow q name others controlled also → IsAlikeBelow (q + 1) name others controlled also
  alike_more q other there either so_far k below at = elim (split_last k q below) [
    | inl before ↦ so_far k before at
    | inr last ↦ elim either [
      | inl apart ↦ absurd (apart (same_some other name (sym there ∙ (ap (slice_get others) (sym last) ∙ at))))
      | inr same ↦ subst (λ (n : ℕ). IsTrue controlled ↔ Contains also n) (sym last) (same_flag also q controlled same)
    ]
  ]

  -- it has the name, and is not controlled alike
  pub unlike_at : (q : ℕ) → slice_get others q ≡ Some name → ¬ (listed also q ≡ controlled) → ¬ IsAlike name others controlled also
  unlike_at q there other alike = other_flag also q controlled other (alike q there)

  -- all of them
  pub alike_all : (end : ℕ) → length others ≤ end → IsAlikeBelow end name others controlled also → IsAlike name others controlled also
  alike_all end past so_far q at = (let within = slice_get_within others q name at in so_far q (omega (arith, within, past)) at)

module _ (ones others : List (List ℕ)) (controlled also : List ℕ) where
  -- the propositions of one name more
  pub names_more : (p : ℕ) (one : List ℕ) → slice_get ones p ≡ Some one → IsAlike one others (listed controlled p) also → AreAlikeBelow p ones others controlled also
      → AreAlikeBelow (p + 1) ones others controlled also
  names_more p one there alike so_far k name below at = elim (split_last k p below) [
    | inl before ↦ so_far k name before at
    | inr last ↦
        let same : one ≡ name = same_some one name (sym there ∙ (ap (slice_get ones) (sym last) ∙ at)) in
        subst (λ (n : ℕ). IsAlike name others (listed controlled n) also) (sym last)
        (subst (λ (x : List ℕ). IsAlike x others (listed controlled p) also) same alike)
  ]

  -- those of a name are not alike
  pub unlike_names : (p : ℕ) (one : List ℕ) → slice_get ones p ≡ Some one → ¬ IsAlike one others (listed controlled p) also → ¬ AreAlike ones others controlled also
  unlike_names p one there unlike alike = unlike (λ q at.
      let both = alike p q one there at in
      let flag = same_flag controlled p (listed controlled p) refl in
      (λ set. both.0 (flag.0 set), λ has. flag.1 (both.1 has)))

  -- all of them
  pub names_all : (end : ℕ) → length ones ≤ end → AreAlikeBelow end ones others controlled also → AreAlike ones others controlled also
  names_all end past so_far p q name one other =
      let within = slice_get_within ones p name one in
      let both = so_far p name (omega (arith, within, past)) one q other in
      let flag = same_flag controlled p (listed controlled p) refl in
      (λ has. both.0 (flag.1 has), λ has. flag.0 (both.1 has))

-- ---- as the code finds it

-- a name is another one, or controlled alike
unlike_none : (other name : List ℕ) (flag controlled : Bool) → is_unlike other name flag controlled ≡ false → (¬ (other ≡ name)) ⊎ (flag ≡ controlled)
unlike_none other name flag true none = go (bytes_eq other name) refl flag none
  where
    go : (b : Bool) → bytes_eq other name ≡ b → (f : Bool) → (b && not f) ≡ false → (¬ (other ≡ name)) ⊎ (f ≡ true)
    go false apart f e = inl (λ same. true≢false (sym ((bytes_eq-Decides other name).1 same) ∙ apart))
    go true same true e = inr refl
    go true same false e = absurd (true≢false e)
unlike_none other name flag false none = go (bytes_eq other name) refl flag none
  where
    go : (b : Bool) → bytes_eq other name ≡ b → (f : Bool) → (b && f) ≡ false → (¬ (other ≡ name)) ⊎ (f ≡ false)
    go false apart f e = inl (λ same. true≢false (sym ((bytes_eq-Decides other name).1 same) ∙ apart))
    go true same true e = absurd (true≢false e)
    go true same false e = inr refl

-- it is the name, and not controlled alike
unlike_some : (other name : List ℕ) (flag controlled : Bool) → is_unlike other name flag controlled ≡ true → (other ≡ name) × ¬ (flag ≡ controlled)
unlike_some other name flag true some = go (bytes_eq other name) refl flag some
  where
    go : (b : Bool) → bytes_eq other name ≡ b → (f : Bool) → (b && not f) ≡ true → (other ≡ name) × ¬ (f ≡ true)
    go false apart f e = absurd (true≢false (sym e))
    go true same true e = absurd (true≢false (sym e))
    go true same false e = ((bytes_eq-Decides other name).0 same, λ is. true≢false (sym is))
unlike_some other name flag false some = go (bytes_eq other name) refl flag some
  where
    go : (b : Bool) → bytes_eq other name ≡ b → (f : Bool) → (b && f) ≡ true → (other ≡ name) × ¬ (f ≡ false)
    go false apart f e = absurd (true≢false (sym e))
    go true same true e = ((bytes_eq-Decides other name).0 same, λ is. true≢false is)
    go true same false e = absurd (true≢false (sym e))

module _ (name : List ℕ) (others : List (List ℕ)) (controlled : Bool) (also : List ℕ) (q : ℕ) (other view : List ℕ) (flag : Bool) where
  -- the next proposition is alike
  pub alike_next : q < length others → other ≡ get_or others q other → view ≡ other → flag ≡ listed also q → is_unlike view name flag controlled ≡ false
      → IsAlikeBelow q name others controlled also → IsAlikeBelow (q + 1) name others controlled also
  alike_next below here seen found none so_far =
      let at : slice_get others q ≡ Some view = slice_get_read others (length others) q other refl below here ∙ ap Some (sym seen) in
      let either : (¬ (view ≡ name)) ⊎ (listed also q ≡ controlled) = elim (unlike_none view name flag controlled none) [
        | inl apart ↦ inl apart
        | inr same ↦ inr (sym found ∙ same)
      ] in
      alike_more name others controlled also q view at either so_far

  -- it is not
  pub alike_broken : q < length others → other ≡ get_or others q other → view ≡ other → flag ≡ listed also q → is_unlike view name flag controlled ≡ true
      → ¬ IsAlike name others controlled also
  alike_broken below here seen found some =
      let unlike = unlike_some view name flag controlled some in
      let at : slice_get others q ≡ Some name = slice_get_read others (length others) q other refl below here ∙ ap Some (sym seen ∙ unlike.0) in
      unlike_at name others controlled also q at (λ same. unlike.1 (found ∙ same))

module _ (ones others : List (List ℕ)) (controlled also : List ℕ) (p : ℕ) (one view : List ℕ) (flag : Bool) where
  -- the propositions of the next name are alike
  pub names_next : p < length ones → one ≡ get_or ones p one → view ≡ one → flag ≡ listed controlled p → IsAlike view others flag also
      → AreAlikeBelow p ones others controlled also → AreAlikeBelow (p + 1) ones others controlled also
  names_next below here seen found alike so_far =
      names_more ones others controlled also p view (slice_get_read ones (length ones) p one refl below here ∙ ap Some (sym seen))
      (subst (λ (b : Bool). IsAlike view others b also) found alike) so_far

  -- they are not
  pub names_broken : p < length ones → one ≡ get_or ones p one → view ≡ one → flag ≡ listed controlled p → ¬ IsAlike view others flag also
      → ¬ AreAlike ones others controlled also
  names_broken below here seen found unlike =
      unlike_names ones others controlled also p view (slice_get_read ones (length ones) p one refl below here ∙ ap Some (sym seen))
      (λ alike. unlike (subst (λ (b : Bool). IsAlike view others b also) (sym found) alike))
