-- What a loop over writes keeps, and how each call goes on with it.
use Rattle.std.proofs.Common.{◌≡◌, ℕ, ◌+◌, ◌-◌, ◌≤◌, List, Option, length, take, drop, ◌∙◌, arith}
use Rattle.std.proofs.lemmas.List.{drop-drop, length-drop}
use lib.Seq.{take-add}
use Rattle.std.proofs.KnownBytes.{Appends-trans}
use Rattle.std.specs.Io.KnownBytes.{Appends}

-- `count` bytes of the text were written, and the rest was not
pub record IsWriting (before now : Option (List ℕ)) (text rest : List ℕ) : Type 0 where
  pub count : ℕ
  pub within : count ≤ length text
  pub following : rest ≡ drop count text
  pub taken : Appends before now (take count text)

-- the next write took `count` bytes of the rest
pub IsWriting-goes_on : (before now after : Option (List ℕ)) (text rest next : List ℕ) (count : ℕ) → IsWriting before now text rest
    → count ≤ length rest → Appends now after (take count rest) → next ≡ drop count rest → IsWriting before after text next
IsWriting-goes_on before now after text rest next count writing bound written left =
    let here : rest ≡ drop writing.count text = writing.following in
    let short : length rest ≡ length text - writing.count = rw (writing.following) (length-drop writing.count text) in
    let both = Appends-trans before now after _ _ writing.taken written in
    record {
      count = writing.count + count;
      within = omega (arith, writing.within);
      following = left ∙ rw writing.following (drop-drop count writing.count text);
      taken = rw take-add (rw (← writing.following) both);
    }
