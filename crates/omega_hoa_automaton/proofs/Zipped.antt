-- Lists whose items are related one by one, item by item.
use Rattle.std.proofs.Common.{◌≡◌, List, [], ◌∷◌, ◌++◌}
use Rattle.std.specs.List.{AllZip}

-- one more pair of related items
AllZip-push : {A B : Type 0} (R : A → B → Type 0) (xs : List A) (ys : List B) (x : A) (y : B) → AllZip R xs ys → R x y → AllZip R (xs ++ x ∷ []) (ys ++ y ∷ [])
AllZip-push R [] [] x y before here = (here, tt)
AllZip-push R [] (b ∷ ys) x y before here = absurd before
AllZip-push R (a ∷ xs) [] x y before here = absurd before
AllZip-push R (a ∷ xs) (b ∷ ys) x y before here = (before.0, AllZip-push R xs ys x y before.1 here)

-- one more pair of related items, the second put last
pub zipped_push : {A B : Type 0} (R : A → B → Type 0) (xs : List A) (ys more : List B) (x : A) (y : B)
    → AllZip R xs ys → R x y → more ≡ ys ++ y ∷ [] → AllZip R (xs ++ x ∷ []) more
zipped_push R xs ys more x y before here put = rw put (AllZip-push R xs ys x y before here)
