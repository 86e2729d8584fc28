-- What the first of the items that say such a thing says, item by item.
use Rattle.std.proofs.Common.{◌≡◌, ℕ, ◌+◌, ◌<◌, List, length, get_or, drop, Option, Some, None, refl}
use Rattle.std.proofs.lemmas.List.{at_drop_more}
use Rattle.omega_hoa_syntax.specs.declared.raw_item.RawItem.{RawItem}
use Rattle.omega_hoa_automaton.specs.Items.{first_said}

-- an item that says nothing of the kind is passed over
pub first_said_past : {X : Type 0} (says : RawItem → Option X) (items : List RawItem) (i : ℕ) (d : RawItem) → i < length items
    → says (get_or items i d) ≡ None → first_said says (drop i items) ≡ first_said says (drop (i + 1) items)
first_said_past says items i d within none = rw (at_drop_more (first_said says) items i d within) (rw none refl)

-- one that does is the first
pub first_said_here : {X : Type 0} (says : RawItem → Option X) (items : List RawItem) (i : ℕ) (d : RawItem) (x : X) → i < length items
    → says (get_or items i d) ≡ Some x → first_said says (drop i items) ≡ Some x
first_said_here says items i d x within some = rw (at_drop_more (first_said says) items i d within) (rw some refl)
