-- What a text in the hands of a caller owns: the box of its bytes, or nothing.
use Rattle.std.specs.Prelude.{ℕ, Option, None, Some}
use base.Fml.{Fml, feq}
use denote.RattleType.{RattleType}
use denote.RawPtr.{Ptr, null_ptr}
use denote.Builtin.{u8}
use Rattle.std.specs.Box.Ownership.{box_owns}
use Rattle.std.specs.Global.{Global}
use Rattle.std.specs.Vec.{vec_ptr, vec_len}
use Rattle.std_heap.specs.contracts.GlobalAllocator.TheImpl.{ghosts}
use Rattle.std_heap.specs.contracts.Global.{the_row as heap}
use Rattle.std_alloc.specs.contracts.vec.Vec as vec

-- vectors of bytes, as the logic has them
abbrev pub kept_row : RattleType
kept_row = vec.the_row u8 heap ghosts

-- a vector of bytes
abbrev pub Kept : Type 0
Kept = kept_row.Denot

-- where the bytes of a text are, if there is one
abbrev pub place_of : Ptr → Option Kept → Ptr
place_of other None = other
place_of other (Some v) = vec_ptr v

-- how many bytes a text has, none if there is none
abbrev pub length_of : Option Kept → ℕ
length_of None = 0
length_of (Some v) = vec_len v

-- at the pointer is the box of the bytes, with the right to free it; or there is no text, and the pointer is null
abbrev pub kept_owns : Global → Ptr → Option Kept → Fml
kept_owns alloc at None = feq Ptr at null_ptr
kept_owns alloc at (Some v) = box_owns (ghosts.dealloc_token alloc) kept_row at v
