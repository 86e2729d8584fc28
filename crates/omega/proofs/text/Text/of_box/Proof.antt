-- `holding` moves the pointer and the allocator, and what they own goes with them.
use Rattle.std.proofs.Common.{◌≡◌, List, [], ◌∷◌, ◌++◌, refl, sym, subst, w64}
use mir.Val.{Val, vint, vptr}
use base.Logic.{SProp, ent, id⊢}
use base.Fml.{ftrue}
use prog.Wp.{WpFn}
use types.Kit.{‵, raw, ◌⊛◌, ◌$◌, ◌∵◌, !, qed, move, drop, split, join, fsplit, fjoin, suffices, feq_l, done}
use types.Run.{stop, fld, of_opd, no_more, and_then, returns, enter}
use types.ByLocal.{alloc_all, pass_all, free_all, look_at, get, get_in, sets}
use types.Part.{agg, sub, whole}
use contract.Monad.{fact}
use contract.Running.{tables}
use denote.Exit.{yes}
use denote.RattleType.{RattleType, owns}
use denote.Builtin.{RawPtr, usize}
use denote.Laws.{Is, shows}
use denote.RawPtr.{block_ptr, ptr_val}
use denote.Signature.{plain}
use denote.Steps.{nothing, heard, peeks}
use denote.Triple.Walked.{says, Stays, stay_dropped, walk_of, ends_at, Goes-dropped}
use Rattle.core.proofs.atomic.Steps.{Ptr-Good}
use Rattle.std.specs.Prelude.{Some}
use Rattle.std.specs.Vec.{vec_len, vec_ptr}
use Rattle.std_heap.specs.contracts.GlobalAllocator.TheImpl.{ghosts}
use Rattle.std_heap.proofs.Global.TheLaws as heap_laws
use Rattle.std.proofs.raw_atomic.Walks.{proved_at}
use Rattle.omega.specs.Held.{kept_row}
use Rattle.omega.specs.contracts.text.Text as text
use Rattle.omega.proofs.LooseWalks.{both, Loose, loose_good, loose_out}
use Rattle.omega.proofs.TextWalks.{Z, word, text_good, text_in}
use Rattle.omega.specs.contracts.text.Text.of_box as f
use Rattle.omega.specs.contracts.text.Text.of_box.Key.{name as #self}
use Rattle.omega.proofs.text.Text.of_box.Statement.{statement}
use Rattle.omega.proofs.text.Text.of_box.Code as code

abbrev Lr : RattleType
Lr = Loose kept_row Z heap_laws.the_row_laws ghosts

abbrev stayed : Stays f.ended.signature.params f.ended.kept
stayed = (stay_dropped (plain (λ _. RawPtr)) yes, (stay_dropped (plain (λ _. usize)) yes, (stay_dropped (plain (λ _. Lr)) yes, tt)))

pub of_box_spec : {M : Type 1} → statement M
of_box_spec 𝓤 𝓛 𝓜 𝓡 wired =
    let H = 𝓛.H in let 𝓣 = tables 𝓤 H 𝓜 𝓡 𝓡.env in let c = f.clauses 𝓛 𝓜.mem 𝓡.returns in
    proved_at 𝓛 f.ended stayed c 𝓜 𝓡 (Goes-dropped 𝓛 0 (plain (λ _. RawPtr)) yes (λ κs x w. refl), (Goes-dropped 𝓛 0 (plain (λ _. usize)) yes (λ κs x w. refl), (Goes-dropped 𝓛 0 (plain (λ _. Lr)) yes (λ κs x w. refl), tt)))
    #self code.function (code.unfolded 𝓤 H 𝓜 𝓡 wired) (λ z are.
    let bytes = z.0.3.0 in let n = z.0.3.1.0 in let l = z.0.3.1.1.0 in let vs = z.0.4 in
    let Post : Val → SProp 𝓤 = (walk_of 𝓛 f.ended stayed c).post z in let Run : List Val → SProp 𝓤 = λ ws. WpFn 𝓤 H 𝓣.C 𝓣.Λ code.function ws Post in
    qed 𝓛 ((‵ ftrue ⊛ ‵ (owns (RawPtr ∷ usize ∷ Lr ∷ []) z.0.3 vs)) ∷ raw (fact 𝓤 ((bytes ≡ vec_ptr l.value) × (n ≡ vec_len l.value))) ∷ []) ∵ split ! $ drop ! $ move ! (1 ∷ []) $
    heard ! ((bytes ≡ vec_ptr l.value) × (n ≡ vec_len l.value)) (λ told. fsplit ! $ feq_l ! (λ eb. fsplit ! $ peeks ! usize (Is usize) (shows 𝓛 usize) n vs.1.0 (λ en. drop ! $ fsplit ! $
    loose_out kept_row Z heap_laws.the_row_laws ghosts ! l vs.1.1.0 (λ b o h e ws fits. move ! (2 ∷ []) $ drop ! $
    -- [what the pointer owns; the allocator]
    let w : List Val = ptr_val bytes ∷ vint w64 n ∷ both (vptr b o) h ∷ [] in
    let d : text.the_row.Denot = record { bytes = bytes; length = n; held = block_ptr b o; alloc = l.alloc; kept = Some l.value; shown = told } in
    suffices ! (Run w) (subst (λ (us : List Val). ent 𝓤 (Run w) (Run us)) (sym (λ i. eb i ++ (en.0 i ++ (ws i ++ [])))) (id⊢ 𝓤 (Run w))) $
    enter ! 𝓣.C 𝓣.Λ code.function w Post $ alloc_all ! (λ ls. pass_all ! refl (Ptr-Good bytes, ((tt, record { fits = en.1 }), (loose_good kept_row Z heap_laws.the_row_laws ghosts b o h fits, tt))) $
    sets ! (of_opd ! (get_in ! (fld ! refl (stop !)) (sub ! 0 refl (whole !)))) refl (tt, tt) $ sets ! (of_opd ! (get_in ! (fld ! refl (stop !)) (sub ! 1 refl (whole !)))) refl fits $
    sets ! (of_opd ! (get ! refl)) refl (tt, tt) $
    sets ! (agg ! (and_then ! (get ! refl) (and_then ! (get ! refl) (and_then ! (get ! refl) (and_then ! (get ! refl) (no_more !)))))) refl (text_good bytes n (block_ptr b o) h en.1 fits) $
    text_in ! d h en.1 $ returns ! (look_at ! 0 refl) $ free_all ! refl $
    suffices ! _ (ends_at 𝓛 f.ended stayed c z (word bytes n (block_ptr b o) h) d (tt, (tt, (tt, tt))) (tt, (tt, (tt, tt)))) $ says ! refl $
    nothing ! $ nothing ! $ fjoin ! $ nothing ! $ fjoin ! $ nothing ! $ fjoin ! $ join ! $ nothing ! $ join ! $ done !))))))
