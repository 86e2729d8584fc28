-- Facts of what calls answer, and of lists that values are appended to.
use Rattle.std.proofs.Common.{◌≡◌, List, [], ◌++◌, sym, ap, subst, ◌∙◌, append_assoc, append-nil}
use Rattle.std.proofs.lemmas.List.{append_cancel_left}
use Rattle.std.specs.Prelude.{Result, Ok, Err, IfErr, IfOk, IsErrAnd}
use Rattle.omega_hoa.specs.Feeding.{Appends}
use Rattle.omega_hoa.specs.private.dividing.Next.{Extends}

-- what an error that is passed on says
pub error_then : {A E : Type 0} (result : Result A E) (said wanted : E → Type 0) → IsErrAnd result said → ((error : E) → said error → wanted error) → IfErr result wanted
error_then (Ok value) said wanted is follows = tt
error_then (Err error) said wanted is follows = follows error is

-- what holds for each list holds for one
pub ok_at : {A E X : Type 0} (result : Result A E) (Holds : X → A → Type 0) (x : X) → IfOk result (λ value. (y : X) → Holds y value) → IfOk result (Holds x)
ok_at (Ok value) Holds x holds = holds x
ok_at (Err error) Holds x holds = tt

-- nothing was appended
pub nothing_more : {X : Type 0} (list values : List X) (Holds : List X → Type 0) → Holds values → Appends list list values Holds
nothing_more list values Holds holds = record { added = []; is = sym (append-nil list); holds = subst Holds (sym (append-nil values)) holds }

-- some values were appended, and then others
pub then_more : {X : Type 0} (old middle new values : List X) (First Then : List X → Type 0) → (first : Appends old middle values First)
    → Appends middle new (values ++ first.added) Then → Appends old new values Then
then_more old middle new values First Then first more = record {
  added = first.added ++ more.added;
  is = more.is ∙ ap (λ list. list ++ more.added) first.is ∙ append_assoc old first.added more.added;
  holds = subst Then (append_assoc values first.added more.added) more.holds;
}

-- the same fact in other words
pub more_says : {X : Type 0} (old new values : List X) (First Then : List X → Type 0) → Appends old new values First → ((all : List X) → First all → Then all) → Appends old new values Then
more_says old new values First Then more says = record { added = more.added; is = more.is; holds = says (values ++ more.added) more.holds }

-- nothing was appended
pub extends_by_none : {X : Type 0} (list : List X) → Extends list list
extends_by_none list = ([], sym (append-nil list))

-- some values were appended, and then others
pub extends_then : {X : Type 0} (old middle new : List X) → Extends old middle → Extends middle new → Extends old new
extends_then old middle new first more = (first.0 ++ more.0, more.1 ∙ ap (λ list. list ++ more.0) first.1 ∙ append_assoc old first.0 more.0)

-- what was appended is the same after each list of values
pub holds_after : {X : Type 0} (old new values : List X) (Holds : List X → Type 0) (extends : Extends old new) → Appends old new values Holds → Holds (values ++ extends.0)
holds_after old new values Holds extends more =
    subst (λ added. Holds (values ++ added)) (append_cancel_left old more.added extends.0 (sym more.is ∙ extends.1)) more.holds

-- the error of a result, or another without one
abbrev error_in : {A E : Type 0} → E → Result A E → E
error_in other (Ok value) = other
error_in other (Err error) = error

-- results with errors are the same only if these are
pub err_same : {A E : Type 0} (one other : E) → ◌≡◌ {A = Result A E} (Err one) (Err other) → one ≡ other
err_same one other same = ap (error_in one) same
