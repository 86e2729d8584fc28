-- The machine values of a `Text`, and what it owns. Assumes `Logic`.
use Rattle.std.proofs.Common.{◌≡◌, ℕ, ◌^◌, ◌<◌, List, [], ◌∷◌, ◌++◌, refl, ◌∙◌, subst, w64}
use mathlib.Core.Bool.{Bool, true, false, ◌&&◌}
use lib.Dec.{T}
use seplogic.Ra.Ura.{Ura}
use mir.Syntax.{impl, tnil, dnil, ty_ptr}
use mir.Val.{Val, vint, vstruct, vcons, vnil, of_list, has_ty}
use base.Fraction.{full_share}
use base.Logic.{ent, guard, guard_i, via, fst∗, snd∗, never}
use base.Fml.{Fml}
use mir.Raw.{raw as bare}
use contract.Monad.{fact_use}
use types.Logic.{Logic, sem}
use types.Kit.{Item, Goal, Seq, Step, step, ‵, ◌$◌, move, drop, fsplit, fjoin, fpick, fpack, feq_i, feq_l, use1, given, learn}
use denote.RattleType.{RattleType, Valss}
use denote.Builtin.{RawPtr, usize}
use denote.Laws.{Is, shows}
use denote.Plain.{uint_Makes}
use denote.Memory.{lone}
use denote.RawPtr.{Ptr, ptr_val, block_ptr, null_ptr, in_a_block, lies_at, Testable}
use denote.Steps.{nothing, owned, peeks}
use denote.Param.{layout}
use denote.Struct.Struct.{within}
use denote.Struct.Owning.{shape, to}
use Rattle.core.proofs.alloc.Calls.{Al, handle_tells}
use Rattle.core.proofs.atomic.Steps.{Ptr-Good}
use Rattle.core.proofs.cell.Inside.{Good}
use Rattle.std_heap.specs.contracts.Global as heap
use Rattle.std_heap.proofs.Global.TheLaws as heap_laws
use Rattle.std_heap.specs.contracts.GlobalAllocator.TheImpl.{ghosts}
use Rattle.omega.specs.contracts.text.Text as text
use Rattle.std_heap.specs.declared.Global.{Global}
use Rattle.std_heap.proofs.GlobalToken.{dealloc_token-Testable}
use Rattle.std.specs.Prelude.{Option, None, Some}
use Rattle.std.specs.Box.Ownership.{box_owns}
use Rattle.omega.specs.Held.{Kept, kept_owns, kept_row}

abbrev pub Z : RattleType
Z = heap.the_row

abbrev pub al : Al
al = record { row = Z; laws = heap_laws.the_row_laws; g = ghosts; d = impl [] tnil dnil; drops = impl [] tnil dnil }

-- the machine value of a `Text` with these fields
abbrev pub word : Ptr → ℕ → Ptr → Val → Val
word bytes length held h = vstruct (vcons (ptr_val bytes) (vcons (vint w64 length) (vcons (ptr_val held) (vcons h vnil))))

all_four : (x y z : Bool) → T x → T y → T z → T (x && (true && (y && (z && true))))
all_four true true true r s t = tt
all_four true true false r s t = absurd t
all_four true false z r s t = absurd s
all_four false y z r s t = absurd r

pub text_good : (bytes : Ptr) (length : ℕ) (held : Ptr) (h : Val) → length < 2 ^ 64 → Good (layout Z) h → Good (layout text.the_row) (word bytes length held h)
text_good bytes length held h n g = (
  all_four (has_ty ty_ptr (ptr_val bytes)) (has_ty ty_ptr (ptr_val held)) (has_ty (layout Z) h) (Ptr-Good bytes).0 (Ptr-Good held).0 g.0,
  ((Ptr-Good bytes).1, (record { fits = n }, ((Ptr-Good held).1, (g.1, tt)))),
)

module _ {M : Type 1} {𝓤 : Ura M} {𝓛 : Logic 𝓤} {K : Type 0} {Γ : List (Item 𝓤)} {G : Goal 𝓤 𝓛.H} where
  -- a `Text` is what it keeps and its allocator
  pub text_out : K → (d : text.the_row.Denot) (vs : List Val)
      → ((h : Val) → vs ≡ word d.bytes d.length d.held h ∷ [] → d.length < 2 ^ 64 → Good (layout Z) h → Seq K 𝓛 (‵ (kept_owns d.alloc d.held d.kept) ∷ ‵ (Z.own_val d.alloc (h ∷ [])) ∷ Γ) G)
      → Seq K 𝓛 (‵ (text.the_row.own_val d vs) ∷ Γ) G
  text_out t d vs k =
      fsplit t $ fpick t (λ vss. fsplit t $ feq_l t (λ ev. fsplit t $ feq_l t (λ eb. fsplit t $ peeks t usize (Is usize) (shows 𝓛 usize) d.length vss.1.0 (λ n. drop t $ fsplit t $ feq_l t (λ eo. fsplit t $
      handle_tells al t d.alloc vss.1.1.1.0 (λ h eh fits. move t (1 ∷ []) $ drop t $ move t (1 ∷ []) $
      k h (ev ∙ (λ j. vstruct (of_list (eb j ++ (n.0 j ++ (eo j ++ (eh j ++ []))))) ∷ [])) n.1 fits))))))

  pub text_in : K → (d : text.the_row.Denot) (h : Val) → d.length < 2 ^ 64
      → Step K 𝓛 (‵ (text.the_row.own_val d (word d.bytes d.length d.held h ∷ [])) ∷ Γ) G (‵ (kept_owns d.alloc d.held d.kept) ∷ ‵ (Z.own_val d.alloc (h ∷ [])) ∷ Γ) G
  text_in t d h n = step (λ s. let v : Val = word d.bytes d.length d.held h in
      nothing t $ move t (2 ∷ 0 ∷ []) $ fjoin t $ feq_i t (List Val) (ptr_val d.held ∷ []) (ptr_val d.held ∷ []) refl $ fjoin t $
      owned t usize (Is usize) (uint_Makes 𝓛 w64) d.length (vint w64 d.length ∷ []) (refl, n) $ fjoin t $
      feq_i t (List Val) (ptr_val d.bytes ∷ []) (ptr_val d.bytes ∷ []) refl $ fjoin t $ feq_i t (List Val) (v ∷ []) (v ∷ []) refl $ fjoin t $
      fpack t (Valss (RawPtr ∷ usize ∷ RawPtr ∷ Z ∷ [])) (within (shape text.the_type) (to text.the_type d) (v ∷ []))
      (ptr_val d.bytes ∷ [], (vint w64 d.length ∷ [], (ptr_val d.held ∷ [], (h ∷ [], tt)))) $ fjoin t $ s)

module _ {M : Type 1} {𝓤 : Ura M} where
  tested : (𝓛 : Logic 𝓤) (a : Global) (p : Ptr) (v : Kept) → ent 𝓤 (sem 𝓛 (box_owns (ghosts.dealloc_token a) kept_row p v)) (guard 𝓤 (Testable p) (sem 𝓛 (box_owns (ghosts.dealloc_token a) kept_row p v)))
  tested 𝓛 a p v = let B = sem 𝓛 (box_owns (ghosts.dealloc_token a) kept_row p v) in
      fact_use 𝓤 (Testable p) (via 𝓤 _ (snd∗ 𝓤 (sem 𝓛 (lies_at kept_row full_share p v)) (sem 𝓛 (ghosts.dealloc_token a (bare (lone kept_row.mir)) p))) (dealloc_token-Testable 𝓛 a (bare (lone kept_row.mir)) p)) (guard_i 𝓤 (Testable p) B)

  module _ {𝓛 : Logic 𝓤} {K : Type 0} {Γ : List (Item 𝓤)} {G : Goal 𝓤 𝓛.H} where
    -- nothing is kept, at null, or a box, at a block
    pub kept_cases : K → (a : Global) (held : Ptr) (k : Option Kept) → (k ≡ None → held ≡ null_ptr → Seq K 𝓛 Γ G)
        → ((v : Kept) (b o : ℕ) → k ≡ Some v → held ≡ block_ptr b o → o < 2 ^ 63 → Seq K 𝓛 (‵ (box_owns (ghosts.dealloc_token a) kept_row (block_ptr b o) v) ∷ Γ) G)
        → Seq K 𝓛 (‵ (kept_owns a held k) ∷ Γ) G
    kept_cases t a held None f g = feq_l t (λ e. f refl e)
    kept_cases t a held (Some v) f g = let B : Ptr → Fml = λ p. box_owns (ghosts.dealloc_token a) kept_row p v in
        use1 𝓛 (given (Testable held) (‵ (B held))) (tested 𝓛 a held v) $ learn t (λ low.
        in_a_block t held B (fst∗ 𝓤 (never 𝓤) (sem 𝓛 (ghosts.dealloc_token a (bare (lone kept_row.mir)) null_ptr))) (λ b o e. g v b o refl e (subst Testable e low)))
