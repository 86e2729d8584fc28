-- A piece of a stream, after the bytes before.
use Rattle.std.proofs.Common.{◌≡◌, ℕ, ◌+◌, ◌-◌, ◌≤◌, ◌<◌, Bool, false, Option, None, Some, List, [], ◌++◌, length, take, drop, refl, sym, ap, subst, ◌∙◌, inl, inr, arith, append_assoc, append-nil, length-append, length-drop}
use Rattle.std.proofs.lemmas.List.{drop-drop, drop_at, length-take-le, take-append-drop, take_all, take_at}
use Rattle.std.specs.Prelude.{◌≢◌, Result, Ok, Err, IfErr, MatchOption, OnOk}
use Rattle.std.specs.Result.{result_err}
use Rattle.omega_text.specs.Format.{GoesOneWay}
use Rattle.omega_text.specs.Lexeme.{Lexeme}
use Rattle.omega_text.specs.Limits.{most_text}
use Rattle.omega_text.specs.hoa.Format.{hoa_format}
use Rattle.omega_text.specs.hoa.Pieces.{DiffersBefore}
use Rattle.omega_text.specs.contracts.hoa.tokenizer.HoaTokenizerByteTokenizer.TheImpl.{ghosts as hoa_tokenizer}
use Rattle.omega_text.specs.declared.hoa.tokenizer.HoaTokenizer.{HoaTokenizer}
use Rattle.omega_text.specs.declared.hoa.kind.HoaKind.{HoaKind}
use Rattle.omega_text.specs.declared.refusal.Refusal.{Refusal}
use Rattle.omega_text.specs.declared.refusal.Refusal.TheVariants.{Memory, Text}
use Rattle.omega_text.specs.declared.refusal.text.TextFault.TheVariants.{TooLong}
use Rattle.omega_hoa.specs.Feeding.{Appends, IsDivided, IsFed, IsRefusedSoFar, IsRefusedThen, IsTaken, TakesPiece}
use Rattle.omega_hoa.specs.Kept.{Kept}
use Rattle.omega_hoa.specs.Laws.{IsAnsweredAtEnd}
use Rattle.omega_hoa.specs.Stream.{IsStreamFault, IsStreamText}
use Rattle.omega_hoa.specs.private.dividing.Fed.{HasReadTaken, IsFedSome, IsRefusedSome}
use Rattle.omega_hoa.specs.private.dividing.Next.{Extends, IsProgress}
use Rattle.omega_hoa.specs.declared.item.Item.{Item}
use Rattle.omega_hoa.specs.declared.progress.ReadProgress.{ReadProgress}
use Rattle.omega_hoa.proofs.Results.{holds_after}
use Rattle.omega_text.proofs.formats.Cutting.{cuts_forward}
use Rattle.omega_text.proofs.hoa_texts.Differing.{read_differing, read_settled}

-- if nothing was refused, the bytes were taken
pub taken_of : (seen : List ℕ) (items : List Item) (kept : Kept) → kept.refused ≡ None → IsFed seen items kept → IsTaken seen items kept
taken_of seen items kept is fed = subst (λ refused. MatchOption refused (IsTaken seen items kept) (IsRefusedSoFar seen items kept)) is fed

-- and the tokenizer has read some
pub known_of : (kept : Kept) (tokenizer : HoaTokenizer) → kept.refused ≡ None → IsFedSome kept tokenizer → HasReadTaken kept tokenizer
known_of kept tokenizer is fed = subst (λ refused. MatchOption refused (HasReadTaken kept tokenizer) (IsRefusedSome kept)) is fed

-- and the other way round
pub known_some : (kept : Kept) (tokenizer : HoaTokenizer) → kept.refused ≡ None → HasReadTaken kept tokenizer → IsFedSome kept tokenizer
known_some kept tokenizer is known = subst (λ refused. MatchOption refused (HasReadTaken kept tokenizer) (IsRefusedSome kept)) (sym is) known

-- the same of what was fed
pub fed_of : (seen : List ℕ) (items : List Item) (kept : Kept) → kept.refused ≡ None → IsTaken seen items kept → IsFed seen items kept
fed_of seen items kept is taken = subst (λ refused. MatchOption refused (IsTaken seen items kept) (IsRefusedSoFar seen items kept)) (sym is) taken

-- what the end refuses if nothing was refused before
pub answered_now : (refusal : Refusal) (seen : List ℕ) (items : List Item) (kept : Kept) → kept.refused ≡ None → IsStreamFault seen items refusal → IsAnsweredAtEnd seen items kept (Some refusal)
answered_now refusal seen items kept none fault = subst (λ before. MatchOption before (IsStreamFault seen items refusal) (λ said. refusal ≡ said)) (sym none) fault

-- what is answered at the end then
pub answered_of : {A : Type 0} (result : Result A Refusal) (seen : List ℕ) (items : List Item) (kept : Kept) → kept.refused ≡ None → IsFed seen items kept
    → OnOk result ((read : List ℕ) (given : List Item) → IsFed read given kept → IsStreamText read given)
    → IfErr result (λ refusal. (read : List ℕ) (given : List Item) → IsFed read given kept → IsStreamFault read given refusal)
    → IsAnsweredAtEnd seen items kept (result_err result)
answered_of (Ok value) seen items kept none fed ok err = ok seen items fed
answered_of (Err refusal) seen items kept none fed ok err = answered_now refusal seen items kept none (err seen items fed)

-- and if something was
pub answered_before : (refusal : Refusal) (seen : List ℕ) (items : List Item) (kept : Kept) → kept.refused ≡ Some refusal → IsAnsweredAtEnd seen items kept (Some refusal)
answered_before refusal seen items kept is = subst (λ before. MatchOption before (IsStreamFault seen items refusal) (λ said. refusal ≡ said)) (sym is) refl

-- a piece passes the limit
pub too_long : (seen : List ℕ) (items : List Item) (kept : Kept) (piece : List ℕ) → IsTaken seen items kept → most_text < kept.begins + length kept.bytes + length piece
    → IsFed (seen ++ piece) items (record kept { refused = Some (Text TooLong) })
too_long seen items kept piece taken long = inl (
  refl,
  record {
    front = seen;
    following = piece;
    split = refl;
    taken = record { lexemes = taken.lexemes; settled = taken.settled; divided = taken.divided; bytes = taken.bytes; total = taken.total; short = taken.short };
    long = omega (arith, length-append seen piece, taken.total, long);
  },
)

-- what is refused so far is so with more bytes after it
refused_longer : (seen piece : List ℕ) (items : List Item) (kept : Kept) (refusal : Refusal) → IsRefusedSoFar seen items kept refusal → IsRefusedSoFar (seen ++ piece) items kept refusal
refused_longer seen piece items kept refusal refused = elim refused [
  | inl past ↦ inl (
    past.0,
    record {
      front = past.1.front;
      following = past.1.following ++ piece;
      split = ap (λ bytes. bytes ++ piece) past.1.split ∙ append_assoc past.1.front past.1.following piece;
      taken = past.1.taken;
      long = let long = past.1.long in omega (arith, long, length-append seen piece);
    },
  )
  | inr always ↦ inr (λ more. subst (λ source. IsStreamFault source items refusal) (sym (append_assoc seen piece more)) (always (piece ++ more)))
]

-- a refused stream is fed with more bytes, and gives nothing more
pub fed_longer : (seen piece : List ℕ) (items : List Item) (kept : Kept) (refusal : Refusal) → kept.refused ≡ Some refusal → IsFed seen items kept → IsFed (seen ++ piece) items kept
fed_longer seen piece items kept refusal is fed =
    subst (λ refused. MatchOption refused (IsTaken (seen ++ piece) items kept) (IsRefusedSoFar (seen ++ piece) items kept)) (sym is)
    (refused_longer seen piece items kept refusal (subst (λ refused. MatchOption refused (IsTaken seen items kept) (IsRefusedSoFar seen items kept)) is fed))

-- so it takes each piece
pub refused_takes : (kept : Kept) (piece : List ℕ) (refusal : Refusal) → kept.refused ≡ Some refusal → TakesPiece kept piece [] kept
refused_takes kept piece refusal is = λ seen items fed.
    subst (λ all. IsFed (seen ++ piece) all kept) (sym (append-nil items)) (fed_longer seen piece items kept refusal is fed)

-- a piece was taken whose items were appended, whatever was fed before
pub takes_piece : (old new : List Item) (kept now : Kept) (piece : List ℕ) (extends : Extends old new)
    → ((seen : List ℕ) (items : List Item) → IsFed seen items kept → Appends old new items (λ all. IsFed (seen ++ piece) all now)) → TakesPiece kept piece extends.0 now
takes_piece old new kept now piece extends taken = λ seen items fed.
    holds_after old new items (λ all. IsFed (seen ++ piece) all now) extends (taken seen items fed)

-- whole segments end within the text
pub divided_within : GoesOneWay hoa_format → (seen : List ℕ) (lexemes : List (Lexeme HoaKind)) (items : List Item) (begins : ℕ) (inside : Bool) → IsDivided seen lexemes items begins inside → begins ≤ length seen
divided_within exact seen lexemes items begins inside divided =
    let within = cuts_forward hoa_format exact (seen ++ []) 0 begins divided.front (omega arith) (divided.cuts []) in
    omega (arith, within.1, ap length (append-nil seen))

-- a tokenizer that has read one text has read each other that differs from it in whole segments alone
module _ (seen : List ℕ) (items : List Item) (kept : Kept) (tokenizer : HoaTokenizer) (taken : IsTaken seen items kept) (known : HasReadTaken kept tokenizer) where
  -- the tokens that are settled
  pub known_lexemes : List (Lexeme HoaKind)
  known_lexemes = taken.divided.front ++ known.divided.rest

  differs : DiffersBefore kept.begins known.seen known.divided.front seen taken.divided.front
  differs = record {
    within = omega (arith, known.taken.total);
    long = omega (arith, known.taken.total, taken.total);
    same = sym known.taken.bytes ∙ taken.bytes;
    cuts = known.divided.cuts;
    other_cuts = taken.divided.cuts;
  }

  pub known_read : hoa_tokenizer.read tokenizer seen known_lexemes
  unfolding known_lexemes
  known_read = read_differing kept.begins known.seen seen known.divided.front taken.divided.front known.divided.rest tokenizer known.sound differs
      (subst (hoa_tokenizer.read tokenizer known.seen) known.divided.split known.read)

  -- and are divided as the text is
  pub known_divided : IsDivided seen known_lexemes items kept.begins kept.inside
  unfolding known_lexemes
  known_divided = record {
    front = taken.divided.front;
    rest = known.divided.rest;
    split = refl;
    before = taken.divided.before;
    following = known.divided.following;
    cuts = taken.divided.cuts;
  }

module _ (seen : List ℕ) (items : List Item) (kept : Kept) (piece all : List ℕ) (held : ℕ) (taken : IsTaken seen items kept) (is : all ≡ kept.bytes ++ piece) (count : held ≡ length kept.bytes) where
  -- the bytes before
  before : take kept.begins seen ++ kept.bytes ≡ seen
  before = ap (λ bytes. take kept.begins seen ++ bytes) taken.bytes ∙ take-append-drop kept.begins seen

  -- the bytes before those that are kept were read, and these
  read_before : take kept.begins seen ++ take held all ≡ seen
  read_before = ap (λ bytes. take kept.begins seen ++ take held bytes) is ∙ ap (λ bytes. take kept.begins seen ++ bytes) (take_at kept.bytes piece held (sym count)) ∙ before

  -- all bytes with the piece
  pub with_piece : take kept.begins seen ++ all ≡ seen ++ piece
  with_piece = ap (λ bytes. take kept.begins seen ++ bytes) is ∙ sym (append_assoc (take kept.begins seen) kept.bytes piece) ∙ ap (λ bytes. bytes ++ piece) before

  -- how far they were read
  pub progress_before : (tokenizer : HoaTokenizer) → HasReadTaken kept tokenizer → kept.begins + length kept.bytes + length piece ≤ most_text
      → IsProgress all kept.begins held (record { tokenizer = tokenizer; division = record { begins = kept.begins; inside = kept.inside } }) (take kept.begins seen) items
  progress_before tokenizer known fits = record {
    there = sym (length-take-le kept.begins seen (omega (arith, taken.total)));
    lexemes = known_lexemes seen items kept tokenizer taken known;
    read = subst (λ bytes. hoa_tokenizer.read tokenizer bytes (known_lexemes seen items kept tokenizer taken known)) (sym read_before) (known_read seen items kept tokenizer taken known);
    sound = known.sound;
    divided = subst (λ bytes. IsDivided bytes (known_lexemes seen items kept tokenizer taken known) items kept.begins kept.inside) (sym read_before)
        (known_divided seen items kept tokenizer taken known);
    from = omega arith;
    short = omega (arith, fits, ap length is, length-append kept.bytes piece);
  }

-- before the first byte
module _ (bytes : List ℕ) (tokenizer : HoaTokenizer) (empty : bytes ≡ []) (read : hoa_tokenizer.read tokenizer [] []) (sound : hoa_tokenizer.fault tokenizer ≡ None) where
  nothing_divided : IsDivided [] [] [] 0 false
  nothing_divided = record { front = []; rest = []; split = refl; before = refl; following = refl; cuts = λ more. refl }

  pub nothing_fed : IsTaken [] [] (record { bytes = bytes; begins = 0; inside = false; refused = None })
  nothing_fed = record {
    lexemes = [];
    settled = read_settled [] [] tokenizer read sound;
    divided = nothing_divided;
    bytes = empty;
    total = omega (arith, ap length empty);
    short = omega arith;
  }

  pub nothing_known : HasReadTaken (record { bytes = bytes; begins = 0; inside = false; refused = None }) tokenizer
  nothing_known = record {
    seen = [];
    items = [];
    taken = nothing_fed;
    lexemes = [];
    divided = nothing_divided;
    read = read;
    sound = sound;
  }

-- once all bytes were read
module _ (exact : GoesOneWay hoa_format) (all : List ℕ) (first : ℕ) (after : ReadProgress) (prior : List ℕ) (items : List Item) (bytes : List ℕ) (refused : Option Refusal)
    (progress : IsProgress all first (length all) after prior items) (is : bytes ≡ drop (after.division.begins - first) all) where
  whole : prior ++ take (length all) all ≡ prior ++ all
  whole = ap (λ rest. prior ++ rest) (take_all (length all) all (omega arith))

  all_divided : IsDivided (prior ++ all) progress.lexemes items after.division.begins after.division.inside
  all_divided = subst (λ seen. IsDivided seen progress.lexemes items after.division.begins after.division.inside) whole progress.divided

  all_read : hoa_tokenizer.read after.tokenizer (prior ++ all) progress.lexemes
  all_read = subst (λ seen. hoa_tokenizer.read after.tokenizer seen progress.lexemes) whole progress.read

  -- what is kept
  pub kept_after : IsTaken (prior ++ all) items (record { bytes = bytes; begins = after.division.begins; inside = after.division.inside; refused = refused })
  kept_after =
      let place : first + (after.division.begins - first) ≡ after.division.begins = omega (arith, progress.from) in
      let rest : bytes ≡ drop after.division.begins (prior ++ all) =
      is ∙ ap (drop (after.division.begins - first)) (sym (drop_at prior all first (sym progress.there)))
      ∙ drop-drop (after.division.begins - first) first (prior ++ all) ∙ ap (λ n. drop n (prior ++ all)) place in
      let within = divided_within exact (prior ++ all) progress.lexemes items after.division.begins after.division.inside all_divided in
      record {
        lexemes = progress.lexemes;
        settled = read_settled (prior ++ all) progress.lexemes after.tokenizer all_read progress.sound;
        divided = all_divided;
        bytes = rest;
        total = omega (arith, within, ap length rest, length-drop after.division.begins (prior ++ all));
        short = omega (arith, length-append prior all, progress.there, progress.short);
      }

  -- and was read
  pub known_after : HasReadTaken (record { bytes = bytes; begins = after.division.begins; inside = after.division.inside; refused = refused }) after.tokenizer
  known_after = record {
    seen = prior ++ all;
    items = items;
    taken = kept_after;
    lexemes = progress.lexemes;
    divided = all_divided;
    read = all_read;
    sound = progress.sound;
  }

-- the whole segments end within the bytes
pub begins_within : GoesOneWay hoa_format → (all : List ℕ) (first : ℕ) (after : ReadProgress) (prior : List ℕ) (items : List Item) → IsProgress all first (length all) after prior items
    → after.division.begins - first ≤ length all
begins_within exact all first after prior items progress =
    let within = divided_within exact (prior ++ take (length all) all) progress.lexemes items after.division.begins after.division.inside progress.divided in
    omega (arith, within, length-append prior (take (length all) all), length-take-le (length all) all (omega arith), progress.there)

-- a refusal other than for want of memory is one for good
pub refused_after : (seen : List ℕ) (old new items : List Item) (refusal : Refusal) → (refusal ≡ Memory → ⊥) → IsRefusedThen seen old new items refusal
    → Appends old new items (λ all. (more : List ℕ) → IsStreamFault (seen ++ more) all refusal)
refused_after seen old new items refusal other refused = elim refused [
  | inl memory ↦ absurd (other memory)
  | inr more ↦ more
]

-- a piece that is within what is left is within the limit
pub fits_of : (seen : List ℕ) (items : List Item) (kept : Kept) (held count : ℕ) → IsTaken seen items kept → held ≡ length kept.bytes → count ≤ most_text - (kept.begins + held)
    → kept.begins + length kept.bytes + count ≤ most_text
fits_of seen items kept held count taken is fits = omega (arith, taken.total, taken.short, is, fits)

-- and one that is not passes it
pub long_of : (kept : Kept) (held count : ℕ) → held ≡ length kept.bytes → most_text - (kept.begins + held) < count → most_text < kept.begins + length kept.bytes + count
long_of kept held count is long = omega (arith, is, long)

-- no text is refused for want of memory
fault_is_no_memory : (source : List ℕ) (items : List Item) → IsStreamFault source items Memory → ⊥
fault_is_no_memory source items fault = elim fault.refused [
  | inl outside ↦ outside.1
  | inr within ↦ elim within [
    | inl opened ↦ opened.1
    | inr ended ↦ ended.1
  ]
]

-- nor are bytes, however they go on
so_far_is_no_memory : (seen : List ℕ) (items : List Item) (kept : Kept) → IsRefusedSoFar seen items kept Memory → ⊥
so_far_is_no_memory seen items kept so_far = elim so_far [
  | inl long ↦ let clash = long.0 in cc
  | inr always ↦ fault_is_no_memory (seen ++ []) items (always [])
]

-- the refusal that a stream keeps is no want of memory
pub kept_is_no_memory : (kept : Kept) (tokenizer : HoaTokenizer) (refusal : Refusal) → kept.refused ≡ Some refusal → IsFedSome kept tokenizer → refusal ≢ Memory
kept_is_no_memory kept tokenizer refusal is fed memory =
    let refused = subst (λ before. MatchOption before (HasReadTaken kept tokenizer) (IsRefusedSome kept)) is fed in
    so_far_is_no_memory refused.0 refused.1 kept (subst (IsRefusedSoFar refused.0 refused.1 kept) memory refused.2)
