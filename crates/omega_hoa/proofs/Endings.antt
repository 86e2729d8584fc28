-- Where the bytes of a stream end.
use Rattle.std.proofs.Common.{◌≡◌, ℕ, Bool, true, false, Option, Some, None, List, ◌∷◌, ◌++◌, length, refl, sym, ap, subst, ◌∙◌, inl, inr, append_assoc, append-nil}
use Rattle.std.specs.Prelude.{IfSome}
use Rattle.omega_text.specs.Cut.{Cuts, IsCut}
use Rattle.omega_text.specs.Lexeme.{Lexeme}
use Rattle.omega_text.specs.hoa.Format.{hoa_format}
use Rattle.omega_text.specs.hoa.Laws.{is_closed}
use Rattle.omega_text.specs.hoa.Pieces.{FaultsAfter, IsCutUpToFault, lexeme_in, lexemes_in, settled_lexemes}
use Rattle.omega_text.specs.declared.hoa.kind.HoaKind.{HoaKind}
use Rattle.omega_text.specs.declared.hoa.kind.HoaKind.TheVariants.{Abort, End, HeaderName}
use Rattle.omega_text.specs.declared.hoa.placed.PlacedToken.{PlacedToken}
use Rattle.omega_text.specs.declared.hoa.placed.Settled.{Settled}
use Rattle.omega_text.specs.declared.refusal.Refusal.TheVariants.{Text}
use Rattle.omega_text.specs.declared.refusal.text.TextFault.{TextFault}
use Rattle.omega_text.specs.declared.refusal.text.TextFault.TheVariants.{Syntax}
use Rattle.omega_hoa.specs.Feeding.{IsDivided}
use Rattle.omega_hoa.specs.Stream.{IsOpen, IsStream, IsStreamFault, is_end}
use Rattle.omega_hoa.specs.private.dividing.Ending.{IsAtEnd, IsLast, IsWholeStream}
use Rattle.omega_hoa.specs.declared.item.Item.{Item}
use Rattle.omega_hoa.proofs.Dividing.{open_push}
use Rattle.omega_hoa.proofs.Settling.{fault_after}
use Rattle.omega_text.proofs.formats.Cutting.{cuts_split}

-- the tokens of a text up to its fault or its end
finished_cuts : (fault : Option TextFault) (seen : List ℕ) (lexemes : List (Lexeme HoaKind)) → IsCutUpToFault fault seen lexemes → (end : ℕ) × Cuts hoa_format seen 0 lexemes end
finished_cuts None seen lexemes cut = (cut.end, cut.cuts)
finished_cuts (Some fault) seen lexemes faults = (faults.end, faults.cuts)

-- a fault after divided tokens
faults_after : (seen : List ℕ) (lexemes : List (Lexeme HoaKind)) (items : List Item) (begins : ℕ) (inside : Bool) (fault : TextFault) → IsDivided seen lexemes items begins inside
    → FaultsAfter seen lexemes fault → IsStreamFault seen items (Text fault)
faults_after seen lexemes items begins inside fault divided faults = record {
  front = divided.front;
  rest = divided.rest;
  from = faults.end;
  cuts = subst (λ ls. Cuts hoa_format seen 0 ls faults.end) divided.split faults.cuts;
  before = divided.before;
  refused = fault_after seen divided.rest faults.end inside fault divided.following faults.faults;
}

-- a token after whole segments that is not `HOA:`
stray_after : (seen : List ℕ) (lexemes others : List (Lexeme HoaKind)) (items : List Item) (begins to : ℕ) (token : PlacedToken) → IsDivided seen lexemes items begins false
    → Cuts hoa_format seen 0 (lexemes ++ lexeme_in seen token ∷ others) to → (token.kind ≡ HeaderName → ⊥) → IsStreamFault seen items (Text (Syntax token.span.start))
stray_after seen lexemes others items begins to token divided cuts other =
    let parts = cuts_split hoa_format seen 0 to lexemes (lexeme_in seen token ∷ others) cuts in
    record {
      front = divided.front;
      rest = divided.rest;
      from = parts.0;
      cuts = subst (λ ls. Cuts hoa_format seen 0 ls parts.0) divided.split parts.1;
      before = divided.before;
      refused = inl (divided.following, (lexeme_in seen token, parts.2.0, λ opens. other opens.kind, refl));
    }

-- a token, if there is one, ends no segment
abbrev EndsNone : Option PlacedToken → Type 0
EndsNone None = Unit {0}
EndsNone (Some token) = is_end token.kind ≡ false

-- a kind whose tokens do not show their own ends is no mark
unclosed_is_no_end : (kind : HoaKind) → is_closed kind ≡ false → is_end kind ≡ false
unclosed_is_no_end End unclosed = cc
unclosed_is_no_end Abort unclosed = cc
unclosed_is_no_end kind unclosed = refl

unclosed_ends_none : (token : Option PlacedToken) → IfSome token (λ token. is_closed token.kind ≡ false) → EndsNone token
unclosed_ends_none None unclosed = tt
unclosed_ends_none (Some token) unclosed = unclosed_is_no_end token.kind unclosed

module _ (settled : Settled) (last : IsLast settled) (seen : List ℕ) (lexemes : List (Lexeme HoaKind)) (items : List Item) (begins : ℕ) where
  -- a token at the end is stray
  pub stray_end : (token : PlacedToken) → settled.first ≡ Some token → IsAtEnd settled false seen lexemes items begins → IsStreamFault seen items (Text (Syntax token.span.start))
  stray_end token is at_end =
      let cut = finished_cuts settled.fault seen (lexemes ++ settled_lexemes seen settled) at_end.finished in
      let unclosed : is_closed token.kind ≡ false = subst (λ first. IfSome first (λ token. is_closed token.kind ≡ false)) is last.unclosed in
      stray_after seen lexemes (lexemes_in seen settled.second) items begins cut.0 token at_end.divided
      (subst (λ first. Cuts hoa_format seen 0 (lexemes ++ (lexemes_in seen first ++ lexemes_in seen settled.second)) cut.0) is cut.1)
      (λ header. let closed : true ≡ false = sym (ap is_closed header) ∙ unclosed in cc)

  -- no token is settled at the end
  none_settled : settled.first ≡ None → lexemes ++ settled_lexemes seen settled ≡ lexemes
  none_settled first = ap (λ token. lexemes ++ (lexemes_in seen token ++ lexemes_in seen settled.second)) first ∙ ap (λ token. lexemes ++ lexemes_in seen token) last.second ∙ append-nil lexemes

  -- a fault is
  pub fault_outside_end : (fault : TextFault) → settled.first ≡ None → settled.fault ≡ Some fault → IsAtEnd settled false seen lexemes items begins → IsStreamFault seen items (Text fault)
  fault_outside_end fault first is at_end = faults_after seen lexemes items begins false fault at_end.divided
      (subst (λ ls. FaultsAfter seen ls fault) (none_settled first)
      (subst (λ some. IsCutUpToFault some seen (lexemes ++ settled_lexemes seen settled)) is at_end.finished))

  -- nothing is
  pub whole_end : settled.first ≡ None → settled.fault ≡ None → IsAtEnd settled false seen lexemes items begins → IsWholeStream seen items
  whole_end first is at_end =
      let divided = at_end.divided in
      record {
        lexemes = lexemes;
        cut = subst (λ ls. IsCut hoa_format seen ls) (none_settled first)
            (subst (λ some. IsCutUpToFault some seen (lexemes ++ settled_lexemes seen settled)) is at_end.finished);
        stream = subst (λ ls. IsStream ls items) (sym (divided.split ∙ ap (λ rest. divided.front ++ rest) divided.following ∙ append-nil divided.front)) divided.before;
      }

  -- a segment goes on with a token that ends none
  open_more : (rest : List (Lexeme HoaKind)) (token : Option PlacedToken) → IsOpen rest → EndsNone token → IsOpen (rest ++ lexemes_in seen token)
  open_more rest None begun none = subst IsOpen (sym (append-nil rest)) begun
  open_more rest (Some token) begun none = open_push rest (lexeme_in seen token) begun none

  -- all tokens are divided
  divided_end : IsDivided seen lexemes items begins true → IsDivided seen (lexemes ++ settled_lexemes seen settled) items begins true
  divided_end divided =
      let one = lexemes_in seen settled.first in
      let other = lexemes_in seen settled.second in
      record {
        front = divided.front;
        rest = (divided.rest ++ one) ++ other;
        split = ap (λ ls. ls ++ (one ++ other)) divided.split ∙ append_assoc divided.front divided.rest (one ++ other)
            ∙ ap (λ ls. divided.front ++ ls) (sym (append_assoc divided.rest one other));
        before = divided.before;
        following = open_more (divided.rest ++ one) settled.second (open_more divided.rest settled.first divided.following (unclosed_ends_none settled.first last.unclosed)) (subst EndsNone (sym last.second) tt);
        cuts = divided.cuts;
      }

  -- a fault inside a segment
  pub fault_inside_end : (fault : TextFault) → settled.fault ≡ Some fault → IsAtEnd settled true seen lexemes items begins → IsStreamFault seen items (Text fault)
  fault_inside_end fault is at_end = faults_after seen (lexemes ++ settled_lexemes seen settled) items begins true fault (divided_end at_end.divided)
      (subst (λ some. IsCutUpToFault some seen (lexemes ++ settled_lexemes seen settled)) is at_end.finished)

  -- a segment without end
  pub cut_short : (count : ℕ) → count ≡ length seen → settled.fault ≡ None → IsAtEnd settled true seen lexemes items begins → IsStreamFault seen items (Text (Syntax count))
  cut_short count all is at_end =
      let ls = lexemes ++ settled_lexemes seen settled in
      let cut : IsCut hoa_format seen ls = subst (λ some. IsCutUpToFault some seen ls) is at_end.finished in
      let divided = divided_end at_end.divided in
      record {
        front = divided.front;
        rest = divided.rest;
        from = cut.end;
        cuts = subst (λ tokens. Cuts hoa_format seen 0 tokens cut.end) divided.split cut.cuts;
        before = divided.before;
        refused = inr (inl (divided.following, (cut.rest, all)));
      }
