-- What an option that may be left out gives, if it has a text or not; and that a flag is not both set and not.
use Rattle.std.proofs.Common.{◌≡◌, ◌≢◌, ℕ, true, false, List, Option, None, Some, is_some, option_map, refl}
use Rattle.omega_cli_command.specs.Values.{Gives, GivesFlag}

module _ {T : Type 0} (reads : List ℕ → T → Type 0) where
  -- if it gives a value, there is a text
  pub given_some : (text : Option (List ℕ)) (value : Option T) → Gives reads text value → is_some value ≡ true → text ≢ None
  given_some None None given some none = cc
  given_some None (Some value) given some none = given
  given_some (Some text) value given some none = cc

  -- if it gives none, there is no text
  pub given_none : (text : Option (List ℕ)) (value : Option T) → Gives reads text value → is_some value ≡ false → text ≡ None
  given_none None value given none = refl
  given_none (Some text) None given none = absurd given
  given_none (Some text) (Some value) given none = cc

-- a flag that is not set is not set
pub unset : (text : Option (List ℕ)) → GivesFlag text false → GivesFlag text true → ⊥
unset None is set = cc
unset (Some text) is set = cc

-- an option that is there has a text
pub some_read : {A : Type 0} (reads : A → List ℕ) (option : Option A) → is_some option ≡ true → option_map reads option ≢ None
some_read reads None there none = cc
some_read reads (Some text) there none = cc

-- one that is not there has none
pub none_read : {A : Type 0} (reads : A → List ℕ) (option : Option A) → is_some option ≡ false → option_map reads option ≡ None
none_read reads None none = refl
none_read reads (Some text) none = cc
