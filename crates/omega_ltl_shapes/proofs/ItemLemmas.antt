-- Lists as sets, item by item.
use Rattle.std.proofs.Common.{◌≡◌, inl, inr, ◌<◌, ◌+◌, ℕ, List, [], ◌∷◌, ◌++◌, length, take, get_or, sym, ap, subst, ◌∙◌, arith}
use Rattle.std.specs.Prelude.{Contains}
use Rattle.std.proofs.lemmas.List.{get_or_default, take_more}
use Rattle.std.proofs.lemmas.List.Elements.{Contains-append_cases, Contains-append_left, Contains-append_right, Contains-push, Contains-push_cases}
use Rattle.omega_ltl_shapes.specs.Terms.{HasItems, HasItemsOfBoth}

-- one item more of the front of a list
pub front_more : {X : Type 0} (P : List X → Type 0) (xs : List X) (i : ℕ) (d : X) → i < length xs → P (take i xs ++ get_or xs i d ∷ []) → P (take (i + 1) xs)
front_more P xs i d low h = subst P (sym (take_more xs i d low)) h

pub has_items_none : (more : List ℕ) → HasItems [] more
has_items_none more d h = absurd (omega (arith, h.1))

pub has_items_more : (items more : List ℕ) (item : ℕ) → HasItems items more → Contains more item → HasItems (items ++ item ∷ []) more
has_items_more items more item has there d h = elim (Contains-push_cases items item d h) [
  | inl before ↦ has d before
  | inr same ↦ subst (Contains more) same there
]

pub of_both_none : (one : List ℕ) → HasItemsOfBoth one [] one
of_both_none one d = (λ h. inl h, λ h. elim h [ inl there ↦ there | inr none ↦ absurd (omega (arith, none.1)) ])

only_one : (d e : ℕ) → Contains (d ∷ []) e → d ≡ e
only_one d e h = elim (Contains-push_cases [] d e h) [ inl none ↦ absurd (omega (arith, none.1)) | inr same ↦ same ]

-- a number is there, or it is pushed
pub both_there : (items : List ℕ) (item : ℕ) → Contains items item → HasItemsOfBoth items (item ∷ []) items
both_there items item there d = (
  λ h. inl h,
  λ h. elim h [ inl old ↦ old | inr one ↦ subst (Contains items) (only_one item d one) there ],
)

pub both_pushed : (items : List ℕ) (item : ℕ) → HasItemsOfBoth items (item ∷ []) (items ++ item ∷ [])
both_pushed items item d = (
  λ h. elim (Contains-push_cases items item d h) [ inl old ↦ inl old | inr same ↦ inr (0, omega arith, same) ],
  λ h. elim h [
    | inl old ↦ Contains-append_left items (item ∷ []) d old
    | inr one ↦ subst (Contains (items ++ item ∷ [])) (only_one item d one) (Contains-push items item)
  ],
)

-- numbers are added in two steps
pub of_both_more : (one other more both all : List ℕ) → HasItemsOfBoth one other both → HasItemsOfBoth both more all → HasItemsOfBoth one (other ++ more) all
of_both_more one other more both all a b d = (
  λ h. elim ((b d).0 h) [
    | inl there ↦ elim ((a d).0 there) [ inl left ↦ inl left | inr right ↦ inr (Contains-append_left other more d right) ]
    | inr added ↦ inr (Contains-append_right other more d added)
  ],
  λ h. elim h [
    | inl left ↦ (b d).1 (inl ((a d).1 (inl left)))
    | inr right ↦ elim (Contains-append_cases other more d right) [
      | inl before ↦ (b d).1 (inl ((a d).1 (inr before)))
      | inr added ↦ (b d).1 (inr added)
    ]
  ],
)

-- the front of a list with the item that was read behind it
pub take_read : {X : Type 0} (xs : List X) (i : ℕ) (x : X) → i < length xs → x ≡ get_or xs i x → take i xs ++ x ∷ [] ≡ take (i + 1) xs
take_read xs i x low is = ap (λ y. take i xs ++ y ∷ []) is ∙ sym (take_more xs i x low)

-- an item of a list, whatever stands beyond it
pub get_or_same : {X : Type 0} (xs : List X) (i : ℕ) (d : X) → i < length xs → get_or xs i d ≡ get_or xs i (get_or xs i d)
get_or_same xs i d low = get_or_default xs i d (get_or xs i d) low

pub has_items_same : (one other more most : List ℕ) → one ≡ other → more ≡ most → HasItems one more → HasItems other most
has_items_same one other more most e f h = subst (HasItems other) f (subst (λ (xs : List ℕ). HasItems xs more) e h)

pub of_both_same : (one other left right both : List ℕ) → one ≡ other → left ≡ right → HasItemsOfBoth one left both → HasItemsOfBoth other right both
of_both_same one other left right both e f h =
    subst (λ (ys : List ℕ). HasItemsOfBoth other ys both) f (subst (λ (xs : List ℕ). HasItemsOfBoth xs left both) e h)
