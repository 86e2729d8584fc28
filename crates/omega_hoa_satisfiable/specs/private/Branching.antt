-- All open branches of a search, and how each change of them keeps the valuations that lead to the end. `onward` says
-- from which places the valuation `held` leads to the end.
use Rattle.std.specs.Prelude.{◌≡◌, ℕ, ◌+◌, ◌<◌, Bool, true, false, ◌&&◌, ◌||◌, Option, [], reverse}
use Rattle.omega_hoa_satisfiable.specs.declared.branches.Branches.{Branches}
use Rattle.omega_hoa_satisfiable.specs.declared.steps.Literal.{Literal}
use Rattle.omega_hoa_satisfiable.specs.declared.steps.Step.TheVariants.{Try}
use Rattle.omega_hoa_satisfiable.specs.private.Leading.{is_as, leads_by}
use Rattle.omega_hoa_satisfiable.specs.private.Pending.{IsPending, fits, fits_one, pending_lead}
use Rattle.omega_hoa_satisfiable.specs.private.Visits.{pending_visits, visits_by}

-- whether a valuation leads to the end in some open branch, if `now` says whether it does from the current place
abbrev pub branches_lead : (ℕ → Bool) → (ℕ → Bool) → Branches → Bool → Bool
branches_lead held onward branches now =
    (fits held branches.assumed.entries && now)
    || pending_lead held onward branches.assumed.entries (reverse branches.later.items)

-- each pending branch goes on under assumptions that are made now
abbrev pub ArePending : Branches → Type 0
ArePending branches = IsPending branches.assumed.entries (reverse branches.later.items)

-- the current branch is the only one and has no assumptions
abbrev pub IsOneBranch : Branches → Type 0
IsOneBranch branches =
    (held onward : ℕ → Bool) (now : Bool) → branches_lead held onward branches now ≡ now

-- if a literal is whole, a valuation that leads to the end from its other place also does from its next one
abbrev pub IsWholeBy : (ℕ → Bool) → Literal → Type 0
IsWholeBy onward literal = literal.whole ≡ true → onward literal.otherwise ≡ true
    → onward literal.next ≡ true

-- a literal is tried: the branches `new`, which go on at a place, lead as the branches `old` do by the literal
abbrev pub IsTried : Branches → Branches → Literal → ℕ → Type 0
IsTried old new literal place = (held onward : ℕ → Bool) → IsWholeBy onward literal
    → branches_lead held onward new (onward place)
    ≡ branches_lead held onward old (leads_by held onward (Try literal))

-- a branch is added: in `new` it goes on at a place, under the current assumptions and one more or none
abbrev pub IsDeferred : Branches → Branches → ℕ → Option (ℕ × Bool) → Type 0
IsDeferred old new place extra =
    (held onward : ℕ → Bool) (now : Bool) → branches_lead held onward new now
    ≡ branches_lead held onward old (now || (fits_one held extra && onward place))

-- the current branch of `old` fails, and the search goes on in a pending one at a place
abbrev pub IsResumed : Branches → Branches → ℕ → Type 0
IsResumed old new place = (held onward : ℕ → Bool)
    → branches_lead held onward new (onward place) ≡ branches_lead held onward old false

-- if the current branch fails, no branch leads to the end
abbrev pub IsExhausted : Branches → Type 0
IsExhausted branches = (held onward : ℕ → Bool) → branches_lead held onward branches false ≡ false

-- the current branch of `new` has one more assumption than that of `old`
abbrev pub IsAssumed : Branches → Branches → ℕ → Bool → Type 0
IsAssumed old new proposition value =
    (held onward : ℕ → Bool) (now : Bool) → branches_lead held onward new now
    ≡ branches_lead held onward old (is_as value (held proposition) && now)

-- some valuation meets the assumptions of the current branch
abbrev pub HasValuation : Branches → Type 0
HasValuation branches =
    (held : ℕ → Bool) × ((onward : ℕ → Bool) → branches_lead held onward branches true ≡ true)

-- a literal is tried: at the place and in the pending branches of `new` fewer steps are visited than by the literal and
-- in those of `old`
abbrev pub IsFewerTried : Branches → Branches → Literal → ℕ → Type 0
IsFewerTried old new literal place =
    (onward : ℕ → ℕ)
    → onward place + pending_visits onward new.later.items
    < visits_by onward (Try literal) + pending_visits onward old.later.items

-- in the pending branches of `new`, and at a place more, as many steps are visited as in those of `old`
abbrev pub IsOneFewer : Branches → Branches → ℕ → Type 0
IsOneFewer old new place =
    (onward : ℕ → ℕ)
    → onward place + pending_visits onward new.later.items ≡ pending_visits onward old.later.items

-- no branch is pending
abbrev pub HasNoPending : Branches → Type 0
HasNoPending branches = branches.later.items ≡ []
