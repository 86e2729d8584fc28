-- Names that are numbered as they come: numbers stay when further names come.
use Rattle.std.proofs.Common.{◌≡◌, ℕ, zero, suc, ◌+◌, ◌<◌, Bool, true, false, ◌||◌, Bor, List, [], ◌∷◌, ◌++◌, length, get_or, take, map, Option, None, Some, option_map, refl, sym, ap, ◌∙◌, subst, if◌then◌else◌}
use Rattle.std.specs.List.{AllZip, cons_option, filter_map, list_any, slice_get}
use Rattle.std.specs.Str.{bytes_eq}
use Rattle.std.proofs.lemmas.List.{map_push, take_more}
use Rattle.std.proofs.lemmas.Option.{slice_get-map}
use Rattle.std.proofs.lemmas.Slice.Eq.{bytes_eq-Decides}
use Rattle.indexmap.specs.IndexSet.{insert_all, insert_key}
use Rattle.omega_text.specs.Lexeme.{Lexeme, lexeme_of}
use Rattle.omega_text.specs.declared.hoa.kind.HoaKind.{HoaKind}
use Rattle.omega_text.specs.declared.token.Token.{Token}
use Rattle.omega_lang_word_text.specs.Reading.{IsReadAs, StandsFor, name_of, names_of}
use Rattle.omega_lang_word_text.specs.private.Names.{names_in, with_name, with_some}

abbrev Names : Type 0
Names = List (List ℕ)

abbrev same_bytes : Bor (List ℕ) → Bor (List ℕ) → Bool
same_bytes one other = bytes_eq one.now other.now

-- a reference is among others exactly if its name is among theirs
any_named : (name : Bor (List ℕ)) (keys : List (Bor (List ℕ))) → list_any (same_bytes name) keys ≡ list_any (bytes_eq name.now) (names_in keys)
any_named name [] = refl
any_named name (key ∷ keys) = ap (λ (b : Bool). bytes_eq name.now key.now || b) (any_named name keys)

-- a name is added to those that are referred to
pub named_more : (keys : List (Bor (List ℕ))) (name : Bor (List ℕ)) → names_in (insert_key same_bytes keys name) ≡ with_some (names_in keys) name.now
named_more keys name =
    go (list_any (same_bytes name) keys)
    ∙ ap (λ (b : Bool). if b then names_in keys else names_in keys ++ name.now ∷ []) (any_named name keys)
  where
    go : (b : Bool) → names_in (if b then keys else keys ++ name ∷ []) ≡ (if b then names_in keys else names_in keys ++ name.now ∷ [])
    go true = refl
    go false = map_push (λ (key : Bor (List ℕ)). key.now) keys name

-- a reference with a number is to the name of that number
pub named_there : (keys : List (Bor (List ℕ))) (number : ℕ) (name key : Bor (List ℕ)) → slice_get keys number ≡ Some key → same_bytes name key ≡ true
    → slice_get (names_in keys) number ≡ Some name.now
named_there keys number name key there same =
    slice_get-map (λ (k : Bor (List ℕ)). k.now) keys number
    ∙ (ap (option_map (λ (k : Bor (List ℕ)). k.now)) there ∙ ap Some (sym ((bytes_eq-Decides name.now key.now).0 same)))

-- an item of a list is that of a longer one
kept_front : (names : Names) (number : ℕ) (name more : List ℕ) → slice_get names number ≡ Some name → slice_get (names ++ more ∷ []) number ≡ Some name
kept_front [] number name more is = absurd (let e : ◌≡◌ {A = Option (List ℕ)} None (Some name) = is in cc)
kept_front (first ∷ names) zero name more is = is
kept_front (first ∷ names) (suc number) name more is = kept_front names number name more is

kept_one : (names : Names) (number : ℕ) (name more : List ℕ) → slice_get names number ≡ Some name → slice_get (with_some names more) number ≡ Some name
kept_one names number name more is = go (list_any (bytes_eq more) names)
  where
    go : (b : Bool) → slice_get (if b then names else names ++ more ∷ []) number ≡ Some name
    go true = is
    go false = kept_front names number name more is

-- tokens are read the same when further names come
kept_stands : (names : Names) (found : Option (List ℕ)) (more : Option (List ℕ)) (own read : Lexeme HoaKind) → StandsFor names found own read → StandsFor (with_name names more) found own read
kept_stands names found None own read is = is
kept_stands names None (Some more) own read is = is
kept_stands names (Some name) (Some more) own read is = (is.0, kept_one names read.value name more is.1)

kept_all : (names : Names) (more : Option (List ℕ)) (own read : List (Lexeme HoaKind)) → AllZip (IsReadAs names) own read → AllZip (IsReadAs (with_name names more)) own read
kept_all names more [] [] all = tt
kept_all names more [] (y ∷ ys) all = all
kept_all names more (x ∷ xs) [] all = all
kept_all names more (x ∷ xs) (y ∷ ys) all =
    (record { place = all.0.place; stands = kept_stands names (name_of x) more x y all.0.stands }, kept_all names more xs ys all.1)

-- a pair more
zip_more : (R : Lexeme HoaKind → Lexeme HoaKind → Type 0) (own read : List (Lexeme HoaKind)) (x y : Lexeme HoaKind) → AllZip R own read → R x y → AllZip R (own ++ x ∷ []) (read ++ y ∷ [])
zip_more R [] [] x y all here = (here, tt)
zip_more R [] (b ∷ bs) x y all here = absurd all
zip_more R (a ∷ rest) [] x y all here = absurd all
zip_more R (a ∷ rest) (b ∷ bs) x y all here = (all.0, zip_more R rest bs x y all.1 here)

-- the names of tokens and one more
one_more : (start : Names) (found : Option (List ℕ)) (rest : Names) → insert_all bytes_eq start (cons_option found rest) ≡ insert_all bytes_eq (with_name start found) rest
one_more start None rest = refl
one_more start (Some name) rest = refl

names_more : (start : Names) (own : List (Lexeme HoaKind)) (next : Lexeme HoaKind)
    → insert_all bytes_eq start (filter_map name_of (own ++ next ∷ [])) ≡ with_name (insert_all bytes_eq start (filter_map name_of own)) (name_of next)
names_more start [] next = one_more start (name_of next) []
names_more start (first ∷ own) next =
    one_more start (name_of first) (filter_map name_of (own ++ next ∷ []))
    ∙ (names_more (with_name start (name_of first)) own next
    ∙ ap (λ (names : Names). with_name names (name_of next)) (sym (one_more start (name_of first) (filter_map name_of own))))

-- the first tokens are read, and have these names
pub record AreRead (own : List (Token HoaKind)) (read : List (Token HoaKind)) (keys : List (Bor (List ℕ))) : Type 0 where
  pub names : names_in keys ≡ names_of (map lexeme_of own)
  pub tokens : AllZip (IsReadAs (names_in keys)) (map lexeme_of own) (map lexeme_of read)

-- and one more
pub read_more : (own read : List (Token HoaKind)) (keys more : List (Bor (List ℕ))) (next token : Token HoaKind) → AreRead own read keys
    → names_in more ≡ with_name (names_in keys) (name_of (lexeme_of next)) → IsReadAs (names_in more) (lexeme_of next) (lexeme_of token)
    → AreRead (own ++ next ∷ []) (read ++ token ∷ []) more
read_more own read keys more next token are named is = record {
  names = named
      ∙ (ap (λ (names : Names). with_name names (name_of (lexeme_of next))) are.names
      ∙ (sym (names_more [] (map lexeme_of own) (lexeme_of next)) ∙ ap names_of (sym (map_push lexeme_of own next))));
  tokens = subst (λ (l : List (Lexeme HoaKind)). AllZip (IsReadAs (names_in more)) l (map lexeme_of (read ++ token ∷ []))) (sym (map_push lexeme_of own next))
      (subst (λ (l : List (Lexeme HoaKind)). AllZip (IsReadAs (names_in more)) (map lexeme_of own ++ lexeme_of next ∷ []) l) (sym (map_push lexeme_of read token))
      (zip_more (IsReadAs (names_in more)) (map lexeme_of own) (map lexeme_of read) (lexeme_of next) (lexeme_of token)
      (subst (λ (names : Names). AllZip (IsReadAs names) (map lexeme_of own) (map lexeme_of read)) (sym named)
      (kept_all (names_in keys) (name_of (lexeme_of next)) (map lexeme_of own) (map lexeme_of read) are.tokens))
      is));
}

-- one name more is copied
pub copied_more : (names : List (Bor (List ℕ))) (i : ℕ) (d : Bor (List ℕ)) (same pushed : Names) (name : List ℕ) → i < length names → same ≡ names_in (take i names)
    → pushed ≡ same ++ name ∷ [] → name ≡ (get_or names i d).now → pushed ≡ names_in (take (i + 1) names)
copied_more names i d same pushed name below is pushed_is named =
    pushed_is
    ∙ (ap (λ (l : Names). l ++ name ∷ []) is
    ∙ (ap (λ (n : List ℕ). names_in (take i names) ++ n ∷ []) named
    ∙ (sym (map_push (λ (key : Bor (List ℕ)). key.now) (take i names) (get_or names i d)) ∙ ap names_in (sym (take_more names i d below)))))

-- one token more is read
pub read_step : (own : List (Token HoaKind)) (i : ℕ) (d : Token HoaKind) (read pushed : List (Token HoaKind)) (keys more : List (Bor (List ℕ))) (token : Token HoaKind) → i < length own
    → AreRead (take i own) read keys → names_in more ≡ with_name (names_in keys) (name_of (lexeme_of (get_or own i d)))
    → IsReadAs (names_in more) (lexeme_of (get_or own i d)) (lexeme_of token) → pushed ≡ read ++ token ∷ [] → AreRead (take (i + 1) own) pushed more
read_step own i d read pushed keys more token below are named is pushed_is =
    subst (λ (l : List (Token HoaKind)). AreRead l pushed more) (sym (take_more own i d below))
    (subst (λ (l : List (Token HoaKind)). AreRead (take i own ++ get_or own i d ∷ []) l more) (sym pushed_is)
    (read_more (take i own) read keys more (get_or own i d) token are named is))
