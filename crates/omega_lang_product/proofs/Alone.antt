-- Elements of which only one passes a test, and edges that are met by their index.
use Rattle.std.proofs.Common.{◌≡◌, ◌≢◌, ℕ, zero, suc, ◌+◌, ◌≤◌, Bool, true, false, cond, List, [], ◌∷◌, length, filter, take, drop, slice_get, Contains, Option, None, Some, option_map, Result, Ok, Err, IfOk, refl, sym, ap, subst, ◌∙◌, arith, true≢false}
use Rattle.omega_lang_product.specs.JointEdges.{Numbered, numbered_from, numbered_partners}
use Rattle.omega_lang_product.specs.Pairs.{can_meet, partners}
use Rattle.omega_lang_product.specs.declared.row.Row.{Row}
use Rattle.omega_lang_product.specs.declared.row.RowEdge.{RowEdge}
use Rattle.omega_lang_product.specs.declared.plain_edge.PlainEdge.{PlainEdge}
use Rattle.omega_lang_product.specs.private.Adding.{numbered_edge, numbered_in}
use Rattle.omega_lang_product.specs.private.Meeting.{HasPartners, MeetsAlone}

-- nothing passes
none_pass : {X : Type 0} (p : X → Bool) (xs : List X) → ((i : ℕ) (x : X) → slice_get xs i ≡ Some x → p x ≡ false) → filter p xs ≡ []
none_pass p [] none = refl
none_pass {X = X} p (x ∷ xs) none = go (p x) (none 0 x refl) (none_pass p xs (λ i y here. none (suc i) y here))
  where
    go : (b : Bool) → b ≡ false → filter p xs ≡ [] → cond b (x ∷ filter p xs) (filter p xs) ≡ []
    go true e rest = absurd (true≢false e)
    go false e rest = rest

-- at most the one at an index passes
alone_passes : {X : Type 0} (p : X → Bool) (xs : List X) (at : ℕ) → ((i : ℕ) (x : X) → slice_get xs i ≡ Some x → at ≢ i → p x ≡ false)
    → filter p (take 1 (drop at xs)) ≡ filter p xs
alone_passes p [] zero alone = refl
alone_passes p [] (suc at) alone = refl
alone_passes {X = X} p (x ∷ xs) zero alone =
    ap (λ (rest : List X). cond (p x) (x ∷ rest) rest) (sym (none_pass p xs (λ i y here. alone (suc i) y here (λ e. omega (arith, e)))))
alone_passes {X = X} p (x ∷ xs) (suc at) alone =
    alone_passes p xs at (λ i y here apart. alone (suc i) y here (λ e. apart (omega (arith, e))))
    ∙ go (p x) (alone 0 x refl (λ e. omega (arith, e)))
  where
    go : (b : Bool) → b ≡ false → filter p xs ≡ cond b (x ∷ filter p xs) (filter p xs)
    go true e = absurd (true≢false e)
    go false e = refl

-- edges numbered after others
pub numbered_alone : (first at : ℕ) (ts : List PlainEdge) → at ≤ length ts → numbered_from (first + at) (take 1 (drop at ts)) ≡ take 1 (drop at (numbered_from first ts))
numbered_alone first zero [] below = refl
numbered_alone first (suc at) [] below = absurd (omega (arith, below))
numbered_alone first zero (t ∷ ts) below =
    let e : first + 0 ≡ first = omega arith in
    ap {B = List Numbered} (λ n. record { number = n; plain_edge = t } ∷ []) e
numbered_alone first (suc at) (t ∷ ts) below =
    let e : first + suc at ≡ (first + 1) + at = omega arith in
    ap (λ n. numbered_from n (take 1 (drop at ts))) e ∙ numbered_alone (first + 1) at ts (omega (arith, below))

-- an edge by its number is one of the edges
numbered_there : (first : ℕ) (ts : List PlainEdge) (i : ℕ) (x : Numbered) → slice_get (numbered_from first ts) i ≡ Some x → slice_get ts i ≡ Some x.plain_edge
numbered_there first [] i x here = absurd (never here)
  where
    never : {X : Type 0} {x : X} → None ≡ Some x → ⊥
    never e = cc
numbered_there first (t ∷ ts) zero x here = ap (λ (o : Option Numbered). option_map (λ (y : Numbered). y.plain_edge) o) here
numbered_there first (t ∷ ts) (suc i) x here = numbered_there (first + 1) ts i x here

-- an element at an index
listed_alone : {X : Type 0} (xs : List X) (at : ℕ) (x : X) → Contains (take 1 (drop at xs)) x → Contains xs x
listed_alone [] zero x listed = listed
listed_alone [] (suc at) x listed = listed
listed_alone (y ∷ ys) zero x (zero, below, here) = (zero, omega arith, here)
listed_alone (y ∷ ys) zero x (suc k, below, here) = absurd (omega (arith, below))
listed_alone (y ∷ ys) (suc at) x listed = later (listed_alone ys at x listed)
  where
    later : Contains ys x → Contains (y ∷ ys) x
    later (k, below, here) = (suc k, omega (arith, below), here)

-- the row of one edge has the partners of an edge that meets it alone
has_partner : (edge : RowEdge) (all row : Row) (at : ℕ) → MeetsAlone edge.edge.now at all.edges.now → row.edges.now ≡ take 1 (drop at all.edges.now)
    → numbered_in row ≡ take 1 (drop at (numbered_in all)) → HasPartners edge all row
has_partner edge all row at alone edges numbered = record {
  plain_edges = ap (partners edge.edge.now) edges ∙ alone_passes (can_meet edge.edge.now) all.edges.now at (λ i other here apart. alone.apart i other here apart);
  numbered = ap (numbered_partners (numbered_edge edge)) numbered
      ∙ alone_passes (λ (second : Numbered). can_meet edge.edge.now second.plain_edge) (numbered_in all) at
      (λ i second here apart. alone.apart i second.plain_edge (numbered_there all.before all.edges.now i second here) apart);
  listed = λ other listed. listed_alone all.edges.now at other (subst (λ (ts : List PlainEdge). Contains ts other) edges listed);
}

pub partner_found : (edge : RowEdge) (all : Row) (at : ℕ) → MeetsAlone edge.edge.now at all.edges.now → {E : Type 0} (result : Result Row E)
    → IfOk result (λ row. row.edges.now ≡ take 1 (drop at all.edges.now)) → IfOk result (λ row. numbered_in row ≡ take 1 (drop at (numbered_in all)))
    → IfOk result (HasPartners edge all)
partner_found edge all at alone (Ok row) edges numbered = has_partner edge all row at alone edges numbered
partner_found edge all at alone (Err e) edges numbered = tt
