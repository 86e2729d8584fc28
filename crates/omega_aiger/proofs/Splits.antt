-- A text parted where the bytes of a class at its front end.
use Rattle.std.proofs.Common.{◌≡◌, ◌⊎◌, inl, inr, ℕ, suc, ◌+◌, ◌<◌, ◌≤◌, Bool, true, false, cond, List, [], ◌∷◌, ◌++◌, length, take, drop, refl, sym, ap, ◌∙◌, subst, arith}
use Rattle.std.specs.List.{AllPass, prefix_len}
use Rattle.std.proofs.lemmas.Bool.{cases_lt}
use Rattle.std.proofs.lemmas.List.{drop_all, drop_more, get_or-take, length-take}
use Rattle.std.proofs.lemmas.List.Sums.{prefix_len_passes, prefix_len_stops}

-- a test holds or not
pub tells : (b : Bool) → (b ≡ true) ⊎ (b ≡ false)
tells true = inl refl
tells false = inr refl

-- the choice of a test that holds, and of one that doesn't
pub yes : {X : Type 0} (b : Bool) (x y : X) → b ≡ true → cond b x y ≡ x
yes b x y is = ap (λ (v : Bool). cond v x y) is

pub no : {X : Type 0} (b : Bool) (x y : X) → b ≡ false → cond b x y ≡ y
no b x y is = ap (λ (v : Bool). cond v x y) is

-- the bytes don't begin with one of the class
abbrev pub Free : (ℕ → Bool) → List ℕ → Type 0
Free p [] = Unit {0}
Free p (b ∷ back) = p b ≡ false

-- what follows the bytes of the class at the front is free of it
pub rest_free : (p : ℕ → Bool) (text : List ℕ) → Free p (drop (prefix_len p text) text)
rest_free p text = go (cases_lt (prefix_len p text) (length text))
  where
    go : (prefix_len p text < length text) ⊎ (length text ≤ prefix_len p text) → Free p (drop (prefix_len p text) text)
    go (inl within) = subst (Free p) (sym (drop_more text (prefix_len p text) 0 within)) (prefix_len_stops p text 0 within)
    go (inr past) = subst (Free p) (sym (drop_all (prefix_len p text) text past)) tt

-- none at the front
pub none_free : (p : ℕ → Bool) (text : List ℕ) → prefix_len p text ≡ 0 → Free p text
none_free p text none = subst (λ (n : ℕ). Free p (drop n text)) none (rest_free p text)

-- free of it: none at the front
pub free_none : (p : ℕ → Bool) (text : List ℕ) → Free p text → prefix_len p text ≡ 0
free_none p [] free = refl
free_none p (b ∷ back) free = no (p b) (1 + prefix_len p back) 0 free

-- the bytes at the front are of the class
pub front_passes : (p : ℕ → Bool) (text : List ℕ) → AllPass p (take (prefix_len p text) text)
front_passes p text k d within =
    let low : k < prefix_len p text = let e = length-take (prefix_len p text) text in omega (arith, within, e) in
    subst (λ (b : ℕ). p b ≡ true) (sym (get_or-take (prefix_len p text) text k d low)) (prefix_len_passes p text k d low)

-- the tail of bytes of a class
tail_passes : (p : ℕ → Bool) (b : ℕ) (front : List ℕ) → AllPass p (b ∷ front) → AllPass p front
tail_passes p b front all k d within = all (suc k) d (omega (arith, within))

-- bytes of the class, and then others
pub front_count : (p : ℕ → Bool) (front back : List ℕ) → AllPass p front → Free p back → prefix_len p (front ++ back) ≡ length front
front_count p [] back all free = free_none p back free
front_count p (b ∷ front) back all free =
    yes (p b) (1 + prefix_len p (front ++ back)) 0 (all 0 0 (omega arith))
    ∙ ap (λ n. 1 + n) (front_count p front back (tail_passes p b front all) free)
    ∙ omega arith
