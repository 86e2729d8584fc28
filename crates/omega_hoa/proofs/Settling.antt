-- The tokens that a byte settles.
use Rattle.std.proofs.Common.{◌≡◌, ℕ, ◌+◌, ◌-◌, ◌≤◌, ◌<◌, ◌^◌, Bool, true, false, Option, Some, None, List, [], ◌∷◌, ◌++◌, length, take, drop, get_or, sym, ap, subst, ◌∙◌, inl, inr, arith, append_assoc, append-nil, length-append}
use Rattle.std.proofs.lemmas.List.{drop_at, length-take-le, take-append-drop, take_more}
use Rattle.omega_text.specs.Cut.{Cuts}
use Rattle.omega_text.specs.Lexeme.{Lexeme}
use Rattle.omega_text.specs.hoa.Fault.{HasFaultFrom}
use Rattle.omega_text.specs.hoa.Format.{hoa_format}
use Rattle.omega_text.specs.hoa.Pieces.{IsSettled, SettlesFault, lexemes_in, settled_lexemes}
use Rattle.omega_text.specs.contracts.hoa.tokenizer.HoaTokenizerByteTokenizer.TheImpl.{ghosts as hoa_tokenizer}
use Rattle.omega_text.specs.declared.hoa.kind.HoaKind.{HoaKind}
use Rattle.omega_text.specs.declared.hoa.placed.PlacedToken.{PlacedToken}
use Rattle.omega_text.specs.declared.hoa.placed.Settled.{Settled}
use Rattle.omega_text.specs.declared.hoa.tokenizer.HoaTokenizer.{HoaTokenizer}
use Rattle.omega_text.specs.declared.refusal.Refusal.{Refusal}
use Rattle.omega_text.specs.declared.refusal.Refusal.TheVariants.{Text}
use Rattle.omega_text.specs.declared.refusal.text.TextFault.{TextFault}
use Rattle.omega_text.specs.declared.refusal.text.TextFault.TheVariants.{Lex, Number, Syntax, TooLong}
use Rattle.omega_hoa.specs.Feeding.{IsDivided, IsRefusedThen, IsRest}
use Rattle.omega_hoa.specs.Stream.{IsFaultInside, IsFaultOutside, IsRefusedAfter, IsStreamFault}
use Rattle.omega_hoa.specs.private.dividing.Next.{IsNextDivision, IsNextSettled, IsNothing, IsProgress, IsRefusedNow, IsWindow}
use Rattle.omega_hoa.specs.declared.division.Division.{Division}
use Rattle.omega_hoa.specs.declared.item.Item.{Item}
use Rattle.omega_hoa.specs.declared.progress.ReadProgress.{ReadProgress}
use Rattle.omega_text.proofs.formats.Cutting.{cuts_split}

-- a fault of tokens refuses a text outside segments
fault_outside : (source : List ℕ) (from : ℕ) (fault : TextFault) → HasFaultFrom source from fault → IsFaultOutside source from fault
fault_outside source from (Lex at) faults = faults
fault_outside source from (Number at) faults = faults
fault_outside source from (Syntax at) faults = absurd faults.fault_there
fault_outside source from TooLong faults = absurd faults.fault_there

-- and inside one
fault_inside : (source : List ℕ) (from : ℕ) (fault : TextFault) → HasFaultFrom source from fault → IsFaultInside source from fault
fault_inside source from (Lex at) faults = faults
fault_inside source from (Number at) faults = faults
fault_inside source from (Syntax at) faults = absurd faults.fault_there
fault_inside source from TooLong faults = absurd faults.fault_there

-- and wherever it is
pub fault_after : (source : List ℕ) (rest : List (Lexeme HoaKind)) (from : ℕ) (inside : Bool) (fault : TextFault) → IsRest inside rest → HasFaultFrom source from fault → IsRefusedAfter source rest from (Text fault)
fault_after source rest from true fault following faults = inr (inl (following, fault_inside source from fault faults))
fault_after source rest from false fault following faults = inl (following, fault_outside source from fault faults)

-- a text whose tokens are divided is refused by the fault after them
pub fault_refuses : (seen : List ℕ) (lexemes : List (Lexeme HoaKind)) (items : List Item) (begins : ℕ) (inside : Bool) (fault : TextFault) → IsDivided seen lexemes items begins inside
    → SettlesFault seen lexemes fault → (more : List ℕ) → IsStreamFault (seen ++ more) items (Text fault)
fault_refuses seen lexemes items begins inside fault divided settles more = record {
  front = divided.front;
  rest = divided.rest;
  from = settles.end;
  cuts = subst (λ ls. Cuts hoa_format (seen ++ more) 0 ls settles.end) divided.split (settles.cuts more);
  before = divided.before;
  refused = fault_after (seen ++ more) divided.rest settles.end inside fault divided.following (settles.faults more);
}

-- what is settled are tokens of the text however it goes on
pub settled_cuts : (fault : Option TextFault) (seen : List ℕ) (lexemes : List (Lexeme HoaKind)) → IsSettled fault seen lexemes → (more : List ℕ) → (end : ℕ) × Cuts hoa_format (seen ++ more) 0 lexemes end
settled_cuts None seen lexemes settles more = (settles.end, settles.cuts more)
settled_cuts (Some fault) seen lexemes settles more = (settles.end, settles.cuts more)

-- no token leaves all divided as it was
pub no_more : (settled : Option PlacedToken) (seen : List ℕ) (lexemes : List (Lexeme HoaKind)) (items : List Item) (begins : ℕ) (inside : Bool) → settled ≡ None
    → IsDivided seen lexemes items begins inside → IsDivided seen (lexemes ++ lexemes_in seen settled) items begins inside
no_more settled seen lexemes items begins inside is divided =
    subst (λ ls. IsDivided seen ls items begins inside) (sym (ap (λ token. lexemes ++ lexemes_in seen token) is ∙ append-nil lexemes)) divided

-- nor do none at all
pub nothing_divided : (settled : Settled) (seen : List ℕ) (lexemes : List (Lexeme HoaKind)) (items : List Item) (begins : ℕ) (inside : Bool) → IsNothing settled
    → IsDivided seen lexemes items begins inside → IsDivided seen (lexemes ++ settled_lexemes seen settled) items begins inside
nothing_divided settled seen lexemes items begins inside nothing divided =
    let same : lexemes ++ settled_lexemes seen settled ≡ lexemes =
    ap (λ token. lexemes ++ (lexemes_in seen token ++ lexemes_in seen settled.second)) nothing.first
    ∙ ap (λ token. lexemes ++ lexemes_in seen token) nothing.second ∙ append-nil lexemes in
    subst (λ ls. IsDivided seen ls items begins inside) (sym same) divided

module _ (bytes : List ℕ) (first : ℕ) (division : Division) (settled : Settled) (seen : List ℕ) (lexemes : List (Lexeme HoaKind)) (items : List Item)
    (next : IsNextSettled bytes first division settled seen lexemes items) where
  -- the tokens, parted
  apart : (lexemes ++ lexemes_in seen settled.first) ++ lexemes_in seen settled.second ≡ lexemes ++ settled_lexemes seen settled
  apart = append_assoc lexemes (lexemes_in seen settled.first) (lexemes_in seen settled.second)

  -- all of them are cut
  pub all_cut : (more : List ℕ) → (end : ℕ) × Cuts hoa_format (seen ++ more) 0 ((lexemes ++ lexemes_in seen settled.first) ++ lexemes_in seen settled.second) end
  all_cut more =
      let cut = settled_cuts settled.fault seen (lexemes ++ settled_lexemes seen settled) next.settles more in
      (cut.0, subst (λ ls. Cuts hoa_format (seen ++ more) 0 ls cut.0) (sym apart) cut.1)

  -- the first is the next
  pub first_next : IsNextDivision bytes first division settled.first seen lexemes items
  first_next = record {
    divided = next.divided;
    cuts = λ more. let cut = all_cut more in
        let parts = cuts_split hoa_format (seen ++ more) 0 cut.0 (lexemes ++ lexemes_in seen settled.first) (lexemes_in seen settled.second) cut.1 in
        (parts.0, parts.1);
    window = next.window;
    from = next.from;
  }

  -- then the second is
  pub second_next : (after : Division) (all : List Item) → IsDivided seen (lexemes ++ lexemes_in seen settled.first) all after.begins after.inside → division.begins ≤ after.begins
      → IsNextDivision bytes first after settled.second seen (lexemes ++ lexemes_in seen settled.first) all
  second_next after all divided forward = record {
    divided = divided;
    cuts = all_cut;
    window = next.window;
    from = omega (arith, next.from, forward);
  }

  -- both are divided
  pub both_divided : (all : List Item) (begins : ℕ) (inside : Bool) → IsDivided seen ((lexemes ++ lexemes_in seen settled.first) ++ lexemes_in seen settled.second) all begins inside
      → IsDivided seen (lexemes ++ settled_lexemes seen settled) all begins inside
  both_divided all begins inside divided = subst (λ ls. IsDivided seen ls all begins inside) apart divided

  -- the fault after them refuses the text
  pub fault_next : (all : List Item) (begins : ℕ) (inside : Bool) (fault : TextFault) → settled.fault ≡ Some fault
      → IsDivided seen ((lexemes ++ lexemes_in seen settled.first) ++ lexemes_in seen settled.second) all begins inside
      → (more : List ℕ) → IsStreamFault (seen ++ more) all (Text fault)
  fault_next all begins inside fault is divided =
      fault_refuses seen (lexemes ++ settled_lexemes seen settled) all begins inside fault (both_divided all begins inside divided)
      (subst (λ some. IsSettled some seen (lexemes ++ settled_lexemes seen settled)) is next.settles)

-- a text whose tokens are divided goes on
pub divided_on : (seen rest : List ℕ) (lexemes : List (Lexeme HoaKind)) (items : List Item) (begins : ℕ) (inside : Bool) → IsDivided seen lexemes items begins inside
    → IsDivided (seen ++ rest) lexemes items begins inside
divided_on seen rest lexemes items begins inside divided = record {
  front = divided.front;
  rest = divided.rest;
  split = divided.split;
  before = divided.before;
  following = divided.following;
  cuts = λ more. subst (λ source. Cuts hoa_format source 0 divided.front begins) (sym (append_assoc seen rest more)) (divided.cuts (rest ++ more));
}

module _ (bytes : List ℕ) (first place : ℕ) (progress : ReadProgress) (prior : List ℕ) (items : List Item) (inside : place < length bytes)
    (so_far : IsProgress bytes first place progress prior items) where
  -- one byte more
  pub one_more : (byte : ℕ) → byte ≡ get_or bytes place 0 → (prior ++ take place bytes) ++ byte ∷ [] ≡ prior ++ take (place + 1) bytes
  one_more byte is = append_assoc prior (take place bytes) (byte ∷ [])
      ∙ ap (λ b. prior ++ (take place bytes ++ b ∷ [])) is ∙ ap (λ bs. prior ++ bs) (sym (take_more bytes place 0 inside))

  -- the bytes to come
  to_come : prior ++ take (place + 1) bytes ++ drop (place + 1) bytes ≡ prior ++ bytes
  to_come = append_assoc prior (take (place + 1) bytes) (drop (place + 1) bytes) ∙ ap (λ bs. prior ++ bs) (take-append-drop (place + 1) bytes)

  -- the bytes are a window of the text up to there
  pub window_there : IsWindow bytes first (prior ++ take (place + 1) bytes)
  window_there = record {
    following = drop (place + 1) bytes;
    is = sym (ap (drop first) to_come ∙ drop_at prior bytes first (sym so_far.there));
    within = omega (arith, length-append prior (take (place + 1) bytes), length-take-le (place + 1) bytes (omega arith), so_far.there);
  }

  -- a place can be counted
  pub countable : length (prior ++ take place bytes) < 2 ^ 64 - 1
  countable = omega (arith, length-append prior (take place bytes), length-take-le place bytes (omega arith), so_far.there, so_far.short)

  -- a refusal at the byte is one of the whole
  pub refused_on : (byte : ℕ) (all : List Item) (refusal : Refusal) → byte ≡ get_or bytes place 0
      → ((more : List ℕ) → IsStreamFault (((prior ++ take place bytes) ++ byte ∷ []) ++ more) all refusal)
      → (more : List ℕ) → IsStreamFault ((prior ++ bytes) ++ more) all refusal
  refused_on byte all refusal is refused more =
      let rest = drop (place + 1) bytes in
      subst (λ source. IsStreamFault source all refusal)
      (ap (λ bs. bs ++ (rest ++ more)) (one_more byte is) ∙ sym (append_assoc (prior ++ take (place + 1) bytes) rest more) ∙ ap (λ bs. bs ++ more) to_come)
      (refused (rest ++ more))

  -- what the byte settles is the next
  pub settled_next : (byte : ℕ) (settled : Settled) → byte ≡ get_or bytes place 0
      → IsSettled settled.fault ((prior ++ take place bytes) ++ byte ∷ []) (so_far.lexemes ++ settled_lexemes ((prior ++ take place bytes) ++ byte ∷ []) settled)
      → IsNextSettled bytes first progress.division settled ((prior ++ take place bytes) ++ byte ∷ []) so_far.lexemes items
  settled_next byte settled is settles = record {
    divided = divided_on (prior ++ take place bytes) (byte ∷ []) so_far.lexemes items progress.division.begins progress.division.inside so_far.divided;
    settles = settles;
    window = subst (IsWindow bytes first) (sym (one_more byte is)) window_there;
    from = so_far.from;
  }

  -- the byte was read
  pub progressed : (byte : ℕ) (settled : Settled) (tokenizer : HoaTokenizer) (division : Division) (all : List Item) → byte ≡ get_or bytes place 0 → progress.division.begins ≤ division.begins → hoa_tokenizer.fault tokenizer ≡ None
      → hoa_tokenizer.read tokenizer ((prior ++ take place bytes) ++ byte ∷ []) (so_far.lexemes ++ settled_lexemes ((prior ++ take place bytes) ++ byte ∷ []) settled)
      → IsDivided ((prior ++ take place bytes) ++ byte ∷ []) (so_far.lexemes ++ settled_lexemes ((prior ++ take place bytes) ++ byte ∷ []) settled) all division.begins division.inside
      → IsProgress bytes first (place + 1) (record { tokenizer = tokenizer; division = division }) prior all
  progressed byte settled tokenizer division all is forward sound read divided =
      let lexemes = so_far.lexemes ++ settled_lexemes ((prior ++ take place bytes) ++ byte ∷ []) settled in
      record {
        there = so_far.there;
        lexemes = lexemes;
        read = subst (λ seen. hoa_tokenizer.read tokenizer seen lexemes) (one_more byte is) read;
        sound = sound;
        divided = subst (λ seen. IsDivided seen lexemes all division.begins division.inside) (one_more byte is) divided;
        from = omega (arith, so_far.from, forward);
        short = so_far.short;
      }

  -- a refusal at the byte, after what was appended, is one of the whole
  pub refused_whole : (byte : ℕ) (old new : List Item) (refusal : Refusal) → byte ≡ get_or bytes place 0
      → IsRefusedThen ((prior ++ take place bytes) ++ byte ∷ []) old new items refusal → IsRefusedThen (prior ++ bytes) old new items refusal
  refused_whole byte old new refusal is refused = elim refused [
    | inl memory ↦ inl memory
    | inr more ↦ inr (record { added = more.added; is = more.is; holds = refused_on byte (items ++ more.added) refusal is more.holds })
  ]

-- a refusal after some items that were appended, if nothing was appended then
pub refused_after : (seen : List ℕ) (old middle new items added : List Item) (refusal : Refusal) → middle ≡ old ++ added → new ≡ middle
    → IsRefusedNow seen (items ++ added) refusal → IsRefusedThen seen old new items refusal
refused_after seen old middle new items added refusal is same refused = elim refused [
  | inl memory ↦ inl memory
  | inr fault ↦ inr (record { added = added; is = same ∙ is; holds = fault })
]

-- a refusal after some items that were appended, and others
pub refused_later : (seen : List ℕ) (old middle new items added : List Item) (refusal : Refusal) → middle ≡ old ++ added
    → IsRefusedThen seen middle new (items ++ added) refusal → IsRefusedThen seen old new items refusal
refused_later seen old middle new items added refusal is refused = elim refused [
  | inl memory ↦ inl memory
  | inr more ↦ inr (record {
    added = added ++ more.added;
    is = more.is ∙ ap (λ list. list ++ more.added) is ∙ append_assoc old added more.added;
    holds = subst (λ all. (rest : List ℕ) → IsStreamFault (seen ++ rest) all refusal) (append_assoc items added more.added) more.holds;
  })
]
