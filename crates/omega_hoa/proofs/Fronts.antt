-- The tokens at the front of some bytes.
use Rattle.std.proofs.Common.{◌≡◌, ℕ, ◌≤◌, ⊎_elim, Bool, true, false, Option, Some, None, List, [], ◌∷◌, ◌++◌, length, refl, sym, ap, subst, ◌∙◌, drop}
use Rattle.std.specs.Coded.{Coded-set, coded_list, coded_ℕ, le_prop}
use Rattle.std.specs.Prelude.{slice_get, IfNone}
use Rattle.std.proofs.Math.Logic.{∥∥₁_elim, ∥∥₁_map}
use Rattle.omega_text.specs.Cursor.{next_place}
use Rattle.omega_text.specs.Cut.{CutOrFault, Cuts}
use Rattle.omega_text.specs.Format.{GoesOneWay}
use Rattle.omega_text.specs.Lexeme.{Lexeme}
use Rattle.omega_text.specs.contracts.hoa.kind.HoaKind as hoa_kind
use Rattle.omega_text.specs.declared.hoa.kind.HoaKind.{HoaKind}
use Rattle.omega_text.specs.declared.hoa.kind.HoaKind.TheVariants.{End}
use Rattle.omega_text.specs.declared.token.Span.{Span}
use Rattle.omega_text.specs.declared.token.Token.{Token}
use Rattle.omega_text.specs.declared.refusal.text.TextFault.{TextFault}
use Rattle.omega_text.specs.hoa.Cut.{Ends, Follows}
use Rattle.omega_text.specs.hoa.Fault.{HasFaultFrom}
use Rattle.omega_text.specs.hoa.Format.{hoa_format}
use Rattle.omega_text.specs.private.Left.{lexeme_code}
use Rattle.omega_hoa.specs.private.Ahead.{Ahead, Front, Front-set, IsAhead, IsAllAhead, IsFront, IsNextAhead, NoneFollows, is_last, token_ahead}

-- a front is a cut
pub front_cuts : (source : List ℕ) (ended : Bool) (from to : ℕ) (lexemes : List (Lexeme HoaKind)) → IsFront source ended from lexemes to → Cuts hoa_format source from lexemes to
front_cuts source ended from to [] front = front.0
front_cuts source ended from to (lexeme ∷ lexemes) front = (front.1, front_cuts source (is_last lexeme.kind) lexeme.span.end to lexemes front.2)

-- after `--END--` nothing is left of it
pub nothing_after_end : (source : List ℕ) (ended : Bool) (from to : ℕ) (inside rest : List (Lexeme HoaKind)) (last : Lexeme HoaKind) → last.kind ≡ End
    → IsFront source ended from (inside ++ last ∷ rest) to → rest ≡ []
nothing_after_end source ended from to [] [] last ends front = refl
nothing_after_end source ended from to [] (other ∷ rest) last ends front =
    let going : is_last last.kind ≡ false = front.2.0 in
    let e : true ≡ false = sym (ap is_last ends) ∙ going in absurd (cc)
nothing_after_end source ended from to (first ∷ inside) rest last ends front = nothing_after_end source (is_last first.kind) first.span.end to inside rest last ends front.2

module _ (exact : GoesOneWay hoa_format) (source : List ℕ) where
  -- at the end no token follows
  pub none_at_end : (at : ℕ) (next : Option (Token HoaKind)) → IfNone next (Ends source at) → IfNone next (NoneFollows source at)
  none_at_end at None ends = λ lexeme follows. exact.no_token_at_end source at lexeme follows ends
  none_at_end at (Some token) ends = tt

  -- nor does one at a fault
  pub none_at_fault : (at : ℕ) (fault : TextFault) → HasFaultFrom source at fault → NoneFollows source at
  none_at_fault at fault faults lexeme follows = exact.no_token_and_fault source at lexeme fault follows faults

  -- there is one front
  pub front_one : (ended : Bool) (from to end : ℕ) (one other : List (Lexeme HoaKind)) → IsFront source ended from one to → IsFront source ended from other end → (one ≡ other) × (to ≡ end)
  front_one ended from to end [] [] here there = (refl, sym here.0 ∙ there.0)
  front_one ended from to end [] (lexeme ∷ other) here there = absurd (here.1 there.0 lexeme there.1)
  front_one ended from to end (lexeme ∷ one) [] here there = absurd (there.1 here.0 lexeme here.1)
  front_one ended from to end (lexeme ∷ one) (first ∷ other) here there =
      let same : first ≡ lexeme = exact.one_token source from first lexeme there.1 here.1 in
      let rest = front_one (is_last lexeme.kind) lexeme.span.end to end one other here.2
      (subst (λ (l : Lexeme HoaKind). IsFront source (is_last l.kind) l.span.end other end) same there.2) in
      (ap (λ ls. lexeme ∷ ls) rest.0 ∙ ap (λ l. l ∷ other) (sym same), rest.1)

  -- there is a front at the beginning of a cut after which no token follows
  front_some : (ended : Bool) (from to : ℕ) (lexemes : List (Lexeme HoaKind)) → Cuts hoa_format source from lexemes to → NoneFollows source to
      → (ls : List (Lexeme HoaKind)) × (end : ℕ) × IsFront source ended from ls end
  front_some true from to lexemes cuts none = ([], from, (refl, λ is. let e : true ≡ false = is in absurd (cc)))
  front_some false from to [] cuts none = ([], from, (refl, λ _. subst (NoneFollows source) (sym cuts) none))
  front_some false from to (lexeme ∷ lexemes) cuts none =
      let rest = front_some (is_last lexeme.kind) lexeme.span.end to lexemes cuts.1 none in
      (lexeme ∷ rest.0, rest.1, (refl, cuts.0, rest.2))

  -- so there is one of every text
  pub front_there : CutOrFault hoa_format → (front : Front) × IsFront source false 0 front.0 front.1
  front_there parts = ⊎_elim
      (λ cut. let some = front_some false 0 cut.1.end cut.0 cut.1.cuts (λ lexeme follows. exact.no_token_at_end source cut.1.end lexeme follows cut.1.rest) in
      ((some.0, some.1), some.2))
      (λ fault. let some = front_some false 0 fault.1.end fault.1.lexemes fault.1.cuts (λ lexeme follows. exact.no_token_and_fault source fault.1.end lexeme fault.0 follows fault.1.faults) in
      ((some.0, some.1), some.2))
      (parts source)

  -- a front is what is ahead, once
  ahead_once : (next : Option (Lexeme HoaKind)) (place : ℕ) (one other : Front) → IsAhead source next place one → IsAhead source next place other → one ≡ other
  ahead_once None place one other here there =
      let ls = here.0 ∙ sym there.0 in
      let end = here.1 ∙ sym there.1 in
      λ i. (ls i, end i)
  ahead_once (Some lexeme) place one other here there =
      let same = front_one (is_last lexeme.kind) lexeme.span.end one.1 other.1 here.others there.others here.following there.following in
      let ls : one.0 ≡ other.0 = here.split ∙ ap (λ others. lexeme ∷ others) same.0 ∙ sym there.split in
      let end : one.1 ≡ other.1 = same.1 in
      λ i. (ls i, end i)

  -- the next token of a front
  pub ahead_some : (ended : Bool) (from place : ℕ) (lexeme : Lexeme HoaKind) (front : Front) → ended ≡ false → Follows source from lexeme → lexeme.span.end ≤ length source
      → IsFront source ended from front.0 front.1 → IsAllAhead source (Some lexeme) place front
  ahead_some ended from place lexeme ([], to) going follows within is = absurd (is.1 going lexeme follows)
  ahead_some ended from place lexeme (first ∷ others, to) going follows within is =
      let same : first ≡ lexeme = exact.one_token source from first lexeme is.1 follows in
      let here : IsAhead source (Some lexeme) place (first ∷ others, to) = record {
        others = others;
        split = ap (λ l. l ∷ others) same;
        within = within;
        following = subst (λ (l : Lexeme HoaKind). IsFront source (is_last l.kind) l.span.end others to) same is.2;
      } in
      record { is = here; only = λ other again. ahead_once (Some lexeme) place (first ∷ others, to) other here again }

  -- the end of a front
  pub ahead_none : (ended : Bool) (from place : ℕ) (front : Front) → place ≡ from → (ended ≡ false → NoneFollows source from) → IsFront source ended from front.0 front.1
      → IsAllAhead source None place front
  ahead_none ended from place ([], to) there none is =
      let here : IsAhead source None place ([], to) = (refl, sym is.0 ∙ sym there) in
      record { is = here; only = λ other again. ahead_once None place ([], to) other here again }
  ahead_none ended from place (lexeme ∷ others, to) there none is = absurd (none is.0 lexeme is.1)

module _ (source : List ℕ) (next : Option (Lexeme HoaKind)) (place : ℕ) (ahead : Ahead source next place) where
  -- the front is the one that is known
  pub ahead_is : (front : Front) → ∥ IsAhead source next place front ∥₁ → ahead.front ≡ front
  ahead_is front some = ∥∥₁_elim some (Front-set ahead.front front) (λ is. ∥∥₁_elim ahead.all (Front-set ahead.front front) (λ all. all.only front is))

  lists_set : (one other : List (Lexeme HoaKind)) → IsProp (one ≡ other)
  lists_set one other = Coded-set (coded_list (lexeme_code hoa_kind.the_row.coded)) one other

  -- none is left if none is next
  left_none : next ≡ None → ahead.front.0 ≡ []
  left_none is = ∥∥₁_elim ahead.all (lists_set ahead.front.0 []) (λ all. (subst (λ n. IsAhead source n place ahead.front) is all.is).0)

  -- and the front ends at the place
  end_none : next ≡ None → place ≡ ahead.front.1
  end_none is = ∥∥₁_elim ahead.all (Coded-set coded_ℕ place ahead.front.1) (λ all. sym (subst (λ n. IsAhead source n place ahead.front) is all.is).1)

  -- the next token is the first
  left_some : (token : Lexeme HoaKind) → next ≡ Some token → ahead.front.0 ≡ token ∷ drop 1 ahead.front.0
  left_some token is = ∥∥₁_elim ahead.all (lists_set ahead.front.0 (token ∷ drop 1 ahead.front.0))
      (λ all. let first : IsNextAhead source token ahead.front = subst (λ n. IsAhead source n place ahead.front) is all.is in
      first.split ∙ ap (λ others. token ∷ others) (sym (ap (drop 1) first.split)))

  left_within : (token : Lexeme HoaKind) → next ≡ Some token → token.span.end ≤ length source
  left_within token is = ∥∥₁_elim ahead.all le_prop
      (λ all. let first : IsNextAhead source token ahead.front = subst (λ n. IsAhead source n place ahead.front) is all.is in first.within)

  -- after it the others are the front
  left_after : (token : Lexeme HoaKind) → next ≡ Some token → ∥ IsFront source (is_last token.kind) token.span.end (drop 1 ahead.front.0) ahead.front.1 ∥₁
  left_after token is = ∥∥₁_map ahead.all
      (λ (all : IsAllAhead source next place ahead.front).
      let first : IsNextAhead source token ahead.front = subst (λ n. IsAhead source n place ahead.front) is all.is in
      subst (λ ls. IsFront source (is_last token.kind) token.span.end ls ahead.front.1) (sym (ap (drop 1) first.split)) first.following)

  -- the place is that of the next token
  pub place_some : (token : Lexeme HoaKind) → next ≡ Some token → token.span.start ≡ next_place ahead.front.0 ahead.front.1
  place_some token is = sym (ap (λ lexemes. next_place lexemes ahead.front.1) (left_some token is))

  -- or the end
  pub place_none : next ≡ None → place ≡ next_place ahead.front.0 ahead.front.1
  place_none is = end_none is ∙ sym (ap (λ lexemes. next_place lexemes ahead.front.1) (left_none is))

-- the same if the next token is known by its parts
module _ (source : List ℕ) (kind : Option HoaKind) (text : List ℕ) (value : ℕ) (span : Span) (ahead : Ahead source (token_ahead kind text value span) span.start) where
  next_is : (some : HoaKind) → kind ≡ Some some → token_ahead kind text value span ≡ Some (record { kind = some; text = text; value = value; span = span })
  next_is some is = ap (λ (one : Option HoaKind). token_ahead one text value span) is

  pub parts_within : (some : HoaKind) → kind ≡ Some some → span.end ≤ length source
  parts_within some is = left_within source _ _ ahead _ (next_is some is)

  pub parts_after : (some : HoaKind) → kind ≡ Some some → ∥ IsFront source (is_last some) span.end (drop 1 ahead.front.0) ahead.front.1 ∥₁
  parts_after some is = left_after source _ _ ahead _ (next_is some is)

  pub parts_none : kind ≡ None → ahead.front.0 ≡ []
  parts_none is = left_none source _ _ ahead (ap (λ (one : Option HoaKind). token_ahead one text value span) is)

  pub parts_first : (some : HoaKind) → kind ≡ Some some → Some (record { kind = some; text = text; value = value; span = span }) ≡ slice_get ahead.front.0 0
  parts_first some is = sym (ap (λ lexemes. slice_get lexemes 0) (left_some source _ _ ahead _ (next_is some is)))
