-- The tokens that are left, when one of them is taken.
use Rattle.std.proofs.Common.{◌≡◌, ℕ, ◌≤◌, Option, Some, None, List, [], ◌∷◌, length, refl, sym, ap, ◌∙◌, subst}
use Rattle.std.specs.Coded.{Coded, Coded-set, coded_list, le_prop}
use Rattle.std.specs.Prelude.{drop, option_map, slice_get, IfNone, IfSome}
use Rattle.omega_text.specs.Cursor.{next_place}
use Rattle.std.proofs.Math.Logic.{∥∥₁_elim, ∥∥₁_map}
use Rattle.omega_text.specs.Cut.{Cuts, IsCut}
use Rattle.omega_text.specs.Format.{TextFormat, GoesOneWay, IsPartAfter}
use Rattle.omega_text.specs.private.Left.{IsAllLeft, IsLeft, IsNextOfLeft, IsRestOfText, Left, lexeme_code, next_of}
use Rattle.omega_text.specs.Lexeme.{Lexeme, lexeme_of}
use Rattle.omega_text.specs.declared.refusal.text.TextFault.{TextFault}
use Rattle.omega_text.specs.declared.token.Span.{Span}
use Rattle.omega_text.specs.declared.token.Token.{Token}
use Rattle.omega_text.proofs.formats.Stops.{one_stop}

module _ {Kind : Type 0} (format : TextFormat Kind) (source : List ℕ) where
  -- a cut is the rest after nothing
  pub cut_is_rest : (lexemes : List (Lexeme Kind)) → IsCut format source lexemes → IsRestOfText format source 0 lexemes
  cut_is_rest lexemes cut = record { end = cut.end; cuts = cut.cuts; rest = cut.rest }

  -- and the rest after nothing is a cut
  pub rest_is_cut : (lexemes : List (Lexeme Kind)) → IsRestOfText format source 0 lexemes → IsCut format source lexemes
  rest_is_cut lexemes rest = record { end = rest.end; cuts = rest.cuts; rest = rest.rest }

  module _ (exact : GoesOneWay format) where
    -- what is left is left once
    left_once : (next : Option (Lexeme Kind)) (one other : List (Lexeme Kind)) → IsLeft format source next one → IsLeft format source next other → one ≡ other
    left_once None one other first second = first ∙ sym second
    left_once (Some token) one other first second =
        let same = (one_stop format exact source token.span.end first.others second.others first.following.end second.following.end None None
        first.following.cuts first.following.rest second.following.cuts second.following.rest).0 in
        first.split ∙ ap (λ others. token ∷ others) same ∙ sym second.split

    -- if a token follows, it is the first of the rest
    rest_first : (at : ℕ) (token : Lexeme Kind) (lexemes : List (Lexeme Kind)) → format.follows source at token → token.span.end ≤ length source
        → IsRestOfText format source at lexemes → IsAllLeft format source (Some token) lexemes
    rest_first at token [] follows within rest = absurd (exact.no_token_at_end source at token follows (subst (format.ends source) (sym rest.cuts) rest.rest))
    rest_first at token (lexeme ∷ others) follows within rest =
        let same : lexeme ≡ token = exact.one_token source at lexeme token rest.cuts.0 follows in
        let left : IsLeft format source (Some token) (lexeme ∷ others) = record {
          others = others;
          split = ap (λ first. first ∷ others) same;
          within = within;
          following = record { end = rest.end; cuts = subst (λ (one : Lexeme Kind). Cuts format source one.span.end others rest.end) same rest.cuts.1; rest = rest.rest };
        } in
        record { are_left = left; only = λ more again. left_once (Some token) (lexeme ∷ others) more left again }

    -- if nothing more follows, the rest is empty
    rest_none : (at : ℕ) (lexemes : List (Lexeme Kind)) → format.ends source at → IsRestOfText format source at lexemes → IsAllLeft format source None lexemes
    rest_none at [] ends rest = record { are_left = refl; only = λ others again. sym again }
    rest_none at (lexeme ∷ others) ends rest = absurd (exact.no_token_at_end source at lexeme rest.cuts.0 ends)

    -- the same of a token that may have been settled
    pub reported_first : (at : ℕ) (next : Option (Token Kind)) → IfSome next (λ token. format.follows source at (lexeme_of token)) → IfSome next (λ token. IsPartAfter source at token.span)
        → IfSome next (λ token. (lexemes : List (Lexeme Kind)) → IsRestOfText format source at lexemes → IsAllLeft format source (Some (lexeme_of token)) lexemes)
    reported_first at None follows part = tt
    reported_first at (Some token) follows part = λ lexemes rest. rest_first at (lexeme_of token) lexemes follows part.within rest

    -- what comes next is all that is left
    pub rest_next : (at : ℕ) (next : Option (Token Kind)) → IfSome next (λ token. format.follows source at (lexeme_of token)) → IfSome next (λ token. IsPartAfter source at token.span)
        → IfNone next (format.ends source at) → (lexemes : List (Lexeme Kind)) → IsRestOfText format source at lexemes → IsAllLeft format source (option_map lexeme_of next) lexemes
    rest_next at None follows part ends lexemes rest = rest_none at lexemes ends rest
    rest_next at (Some token) follows part ends lexemes rest = rest_first at (lexeme_of token) lexemes follows part.within rest

    -- if the rest can be cut, there is no fault
    no_fault : (at : ℕ) (lexemes : List (Lexeme Kind)) (fault : TextFault) → format.faults source at fault → IsRestOfText format source at lexemes → ⊥
    no_fault at [] fault faults rest = exact.no_fault_at_end source at fault faults (subst (format.ends source) (sym rest.cuts) rest.rest)
    no_fault at (lexeme ∷ others) fault faults rest = exact.no_token_and_fault source at lexeme fault rest.cuts.0 faults

    -- nor if it is known that it can be
    pub rest_faultless : (at : ℕ) (fault : TextFault) → format.faults source at fault → ∥ ((lexemes : List (Lexeme Kind)) × IsRestOfText format source at lexemes) ∥₁ → ⊥
    rest_faultless at fault faults some = ∥∥₁_elim some (λ one other. absurd one) (λ rest. no_fault at rest.0 fault faults rest.1)

  module _ (kind : Coded Kind) (next : Option (Lexeme Kind)) (left : Left format source next) where
    -- lists of tokens are equal in one way
    lists_set : (one other : List (Lexeme Kind)) → IsProp (one ≡ other)
    lists_set one other = Coded-set (coded_list (lexeme_code kind)) one other

    -- tokens that are left are the ones that are known
    pub left_is : (lexemes : List (Lexeme Kind)) → IsLeft format source next lexemes → left.lexemes ≡ lexemes
    left_is lexemes is = ∥∥₁_elim left.all_left (lists_set left.lexemes lexemes) (λ all. all.only lexemes is)

    -- also if it is only known that they are
    pub left_known : (lexemes : List (Lexeme Kind)) → ∥ IsLeft format source next lexemes ∥₁ → left.lexemes ≡ lexemes
    left_known lexemes some = ∥∥₁_elim some (lists_set left.lexemes lexemes) (λ is. left_is lexemes is)

    -- none is left if none is next
    pub left_none : next ≡ None → left.lexemes ≡ []
    left_none is = ∥∥₁_elim left.all_left (lists_set left.lexemes []) (λ all. subst (λ n. IsLeft format source n left.lexemes) is all.are_left)

    -- the next token is the first
    pub left_some : (token : Lexeme Kind) → next ≡ Some token → left.lexemes ≡ token ∷ drop 1 left.lexemes
    left_some token is = ∥∥₁_elim left.all_left (lists_set left.lexemes (token ∷ drop 1 left.lexemes))
        (λ all. let first : IsNextOfLeft format source token left.lexemes = subst (λ n. IsLeft format source n left.lexemes) is all.are_left in
        first.split ∙ ap (λ others. token ∷ others) (sym (ap (drop 1) first.split)))

    -- and is within the text
    pub left_within : (token : Lexeme Kind) → next ≡ Some token → token.span.end ≤ length source
    left_within token is = ∥∥₁_elim left.all_left le_prop
        (λ all. let first : IsNextOfLeft format source token left.lexemes = subst (λ n. IsLeft format source n left.lexemes) is all.are_left in first.within)

    -- after it the others are the rest
    pub left_after : (token : Lexeme Kind) → next ≡ Some token → ∥ IsRestOfText format source token.span.end (drop 1 left.lexemes) ∥₁
    left_after token is = ∥∥₁_map left.all_left
        (λ (all : IsAllLeft format source next left.lexemes).
        let first : IsNextOfLeft format source token left.lexemes = subst (λ n. IsLeft format source n left.lexemes) is all.are_left in
        subst (IsRestOfText format source token.span.end) (sym (ap (drop 1) first.split)) first.following)

    -- the place of the next token is its own
    pub place_some : (token : Lexeme Kind) (size : ℕ) → next ≡ Some token → token.span.start ≡ next_place left.lexemes size
    place_some token size is = sym (ap (λ lexemes. next_place lexemes size) (left_some token is))

    -- and if none is next, the length of the text
    pub place_none : (size : ℕ) → next ≡ None → size ≡ next_place left.lexemes size
    place_none size is = sym (ap (λ lexemes. next_place lexemes size) (left_none is))

  -- the same if the next token is known by its parts
  module _ (coded : Coded Kind) (kind : Option Kind) (text : List ℕ) (value : ℕ) (span : Span) (left : Left format source (next_of kind text value span)) where
    next_is : (some : Kind) → kind ≡ Some some → next_of kind text value span ≡ Some (record { kind = some; text = text; value = value; span = span })
    next_is some is = ap (λ (one : Option Kind). next_of one text value span) is

    next_none : kind ≡ None → next_of kind text value span ≡ None
    next_none is = ap (λ (one : Option Kind). next_of one text value span) is

    pub parts_within : (some : Kind) → kind ≡ Some some → span.end ≤ length source
    parts_within some is = left_within coded _ left _ (next_is some is)

    pub parts_after : (some : Kind) → kind ≡ Some some → ∥ IsRestOfText format source span.end (drop 1 left.lexemes) ∥₁
    parts_after some is = left_after coded _ left _ (next_is some is)

    pub parts_none : kind ≡ None → left.lexemes ≡ []
    parts_none is = left_none coded _ left (next_none is)

    pub parts_first : (some : Kind) → kind ≡ Some some → Some (record { kind = some; text = text; value = value; span = span }) ≡ slice_get left.lexemes 0
    parts_first some is = sym (ap (λ lexemes. slice_get lexemes 0) (left_some coded _ left _ (next_is some is)))
