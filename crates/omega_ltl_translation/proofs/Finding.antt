-- States that are found among keys.
use Rattle.std.proofs.Common.{◌≡◌, inl, inr, ◌<◌, ◌≤◌, ℕ, zero, suc, Bool, true, false, ◌||◌, List, [], ◌∷◌, ◌++◌, length, get_or, Option, None, Some, option_map, Vec, refl, sym, ap, ◌∙◌, subst, if◌then◌else◌, arith}
use Rattle.std.specs.Global.{Global}
use Rattle.std.specs.Prelude.{Contains, position}
use Rattle.std.specs.List.{list_any, slice_get}
use Rattle.std.specs.Str.{bytes_eq}
use Rattle.std.proofs.lemmas.Bool.{false≢true}
use Rattle.std.proofs.lemmas.List.{get_or_append_left, get_or_at, length_push, map_push}
use Rattle.std.proofs.lemmas.List.Folds.{list_any_at}
use Rattle.std.proofs.lemmas.List.Elements.{Contains-push_cases}
use Rattle.std.proofs.lemmas.List.Quantifiers.{position-Some}
use Rattle.std.proofs.lemmas.Option.{slice_get-get_or, slice_get-map}
use Rattle.std.proofs.lemmas.Slice.Eq.{bytes_eq-Decides}
use Rattle.indexmap.specs.IndexSet.{insert_key}
use Rattle.indexmap.proofs.CallerLemmas.{Contains-list_any}
use Rattle.omega_ltl_translation.specs.PastLimits.{AreOnce}
use Rattle.omega_ltl_translation.specs.private.Graphs.{IsStateNumber, IsWithState, states_of}
use Rattle.omega_ltl_translation.proofs.Growing.{adds_none}
use Rattle.omega_ltl_translation.proofs.Reaching.{once_push}

abbrev pub same_state : Vec ℕ Global → Vec ℕ Global → Bool
same_state one other = bytes_eq one.items other.items

-- a state is a key exactly if it is among the states
any_state : (state : List ℕ) (keys : List (Vec ℕ Global)) → list_any (λ (key : Vec ℕ Global). bytes_eq state key.items) keys ≡ list_any (bytes_eq state) (states_of keys)
any_state state [] = refl
any_state state (key ∷ keys) = ap (λ (b : Bool). bytes_eq state key.items || b) (any_state state keys)

there : (state : List ℕ) (keys : List (Vec ℕ Global)) → list_any (λ (key : Vec ℕ Global). bytes_eq state key.items) keys ≡ true → Contains (states_of keys) state
there state keys any = Contains-list_any bytes_eq (λ x y. (bytes_eq-Decides x y).0) (states_of keys) state (sym (any_state state keys) ∙ any)

not_there : (state : List ℕ) (keys : List (Vec ℕ Global)) → list_any (λ (key : Vec ℕ Global). bytes_eq state key.items) keys ≡ false → Contains (states_of keys) state → ⊥
not_there state keys none has = false≢true (sym none ∙ any_state state keys
    ∙ list_any_at (bytes_eq state) (states_of keys) has.0 state has.1 ((bytes_eq-Decides state (get_or (states_of keys) has.0 state)).1 (sym has.2)))

-- a state that is found stays
pub state_found : (state : List ℕ) (keys : List (Vec ℕ Global)) → list_any (λ (key : Vec ℕ Global). bytes_eq state key.items) keys ≡ true → IsWithState state (states_of keys) (states_of keys)
state_found state keys any = inl (there state keys any, refl)

-- a state is put among the keys
pub state_put : (state : List ℕ) (keys : List (Vec ℕ Global)) (key : Vec ℕ Global) → key.items ≡ state → IsWithState state (states_of keys) (states_of (insert_key same_state keys key))
state_put state keys key is = subst (λ (s : List ℕ). IsWithState s (states_of keys) (states_of (insert_key same_state keys key))) is (go (list_any (same_state key) keys) refl)
  where
    go : (b : Bool) → list_any (same_state key) keys ≡ b → IsWithState key.items (states_of keys) (states_of (if b then keys else keys ++ key ∷ []))
    go true any = inl (there key.items keys any, refl)
    go false none = inr (not_there key.items keys none, map_push (λ (k : Vec ℕ Global). k.items) keys key)

-- a key with a number is the state of that number
pub key_there : (keys : List (Vec ℕ Global)) (number : ℕ) (state : List ℕ) (key : Vec ℕ Global) → slice_get keys number ≡ Some key → bytes_eq state key.items ≡ true
    → slice_get (states_of keys) number ≡ Some state
key_there keys number state key there same =
    slice_get-map (λ (k : Vec ℕ Global). k.items) keys number
    ∙ (ap (option_map (λ (k : Vec ℕ Global). k.items)) there ∙ ap Some (sym ((bytes_eq-Decides state key.items).0 same)))

-- so is one that is found
pub found_there : (keys : List (Vec ℕ Global)) (number : ℕ) (state : List ℕ) → position (λ (key : Vec ℕ Global). bytes_eq state key.items) keys ≡ Some number
    → slice_get (states_of keys) number ≡ Some state
found_there [] number state found = absurd (let clash : ◌≡◌ {A = Option ℕ} None (Some number) = found in cc)
found_there (first ∷ keys) number state found =
    let there = position-Some (λ (key : Vec ℕ Global). bytes_eq state key.items) (first ∷ keys) number first found in
    key_there (first ∷ keys) number state (get_or (first ∷ keys) number first) (slice_get-get_or (first ∷ keys) number first there.0) there.1

-- the state of a number
state_read : (states : List (List ℕ)) (number : ℕ) (d state : List ℕ) → slice_get states number ≡ Some state → number < length states → get_or states number d ≡ state
state_read states number d state is low = same (get_or states number d) state (sym (slice_get-get_or states number d low) ∙ is)
  where
    same : (one other : List ℕ) → ◌≡◌ {A = Option (List ℕ)} (Some one) (Some other) → one ≡ other
    same one other e = cc

state_within : (states : List (List ℕ)) (number : ℕ) (state : List ℕ) → slice_get states number ≡ Some state → number < length states
state_within [] number state is = absurd (let clash : ◌≡◌ {A = Option (List ℕ)} None (Some state) = is in cc)
state_within (first ∷ states) zero state is = omega arith
state_within (first ∷ states) (suc number) state is = omega (arith, state_within states number state is)

-- keys that have the state of a number with one more state
module _ (state : List ℕ) (states found : List (List ℕ)) (number : ℕ) (with : IsWithState state states found) (at : slice_get found number ≡ Some state) where
  -- a number of a state that was there
  pub still_there : number < length states → found ≡ states
  still_there low = elim with [
    | inl old ↦ old.1
    | inr new ↦ absurd (new.0 (
      number,
      low,
      sym (get_or_append_left states (state ∷ []) state number low)
          ∙ state_read (states ++ state ∷ []) number state state (subst (λ (xs : List (List ℕ)). slice_get xs number ≡ Some state) new.1 at)
          (omega (arith, low, length_push states state)),
    ))
  ]

  pub number_there : number < length states → IsStateNumber state states states number
  number_there low = record {
    adds = adds_none (λ added. added ≡ state) states;
    low = low;
    is = state_read states number [] state (subst (λ (xs : List (List ℕ)). slice_get xs number ≡ Some state) (still_there low) at) low;
  }

  -- or the next one
  pub put_behind : length states ≤ number → (Contains states state → ⊥) × (found ≡ states ++ state ∷ [])
  put_behind high = elim with [
    | inl old ↦ absurd (let low = state_within found number state at in omega (arith, low, ap length old.1, high))
    | inr new ↦ new
  ]

-- a state that was not there is put behind the others
pub number_put : (state : List ℕ) (states new : List (List ℕ)) → (Contains states state → ⊥) → new ≡ states ++ state ∷ [] → IsStateNumber state states new (length states)
number_put state states new missing is = record {
  adds = record {
    more = state ∷ [];
    behind = is;
    given = λ added h. elim (Contains-push_cases [] state added h) [ inl none ↦ absurd (omega (arith, none.1)) | inr same ↦ sym same ];
    once = λ are. subst AreOnce (sym is) (once_push states state missing are);
  };
  low = omega (arith, ap length is, length_push states state);
  is = ap (λ (xs : List (List ℕ)). get_or xs (length states) []) is ∙ get_or_at states state [] [] (length states) refl;
}
