-- Steps of a search: what one more of them changes, and the step at a place.
use Rattle.std.proofs.Common.{◌≡◌, ◌≢◌, ℕ, ◌+◌, ◌<◌, ◌≤◌, eqb, Bool, false, ◌&&◌, ◌||◌, cond, List, [], ◌∷◌, ◌++◌, length, get_or, reverse, inl, inr, ap, refl, subst, sym, ◌∙◌, arith, eq-eqb, length-append}
use Rattle.std.proofs.lemmas.Bool.{cond_both, ne_eqb}
use Rattle.std.proofs.lemmas.Bool.Decides.{eqb_tells}
use Rattle.std.proofs.lemmas.List.{get_or_append_left, length-reverse, reverse-append, reverse-reverse}
use Rattle.std.proofs.Math.Seq.{get_or-append_seam}
use Rattle.omega_hoa_satisfiable.specs.declared.steps.Step.{Step}
use Rattle.omega_hoa_satisfiable.specs.declared.steps.Step.TheVariants.{Done, Either, Stuck, Try}
use Rattle.omega_hoa_satisfiable.specs.private.Among.{among}
use Rattle.omega_hoa_satisfiable.specs.private.Leading.{ArePlanned, AreSteps, IsKept, IsStep, is_as, leads, leads_among, leads_by}
use Rattle.omega_hoa_satisfiable.specs.private.Visits.{visits, visits_by}

-- a step leads where the same is known of the places that it names
leads_by-same : (step : Step) (count : ℕ) (leading : (ℕ → Bool) → ℕ → Bool) (held one other : ℕ → Bool)
    → IsStep count leading step → ((place : ℕ) → place < count → one place ≡ other place) → leads_by held one step ≡ leads_by held other step
leads_by-same Done count leading held one other is same = refl
leads_by-same Stuck count leading held one other is same = refl
leads_by-same (Either first second) count leading held one other is same = λ i. same first is.0 i || same second is.1 i
leads_by-same (Try literal) count leading held one other is same =
    λ i. (is_as literal.sign (held literal.proposition) && same literal.next is.next_before i) || same literal.otherwise is.otherwise_before i

-- as many steps are visited where the same is known of the places that it names
visits_by-same : (step : Step) (count : ℕ) (leading : (ℕ → Bool) → ℕ → Bool) (one other : ℕ → ℕ)
    → IsStep count leading step → ((place : ℕ) → place < count → one place ≡ other place) → visits_by one step ≡ visits_by other step
visits_by-same Done count leading one other is same = refl
visits_by-same Stuck count leading one other is same = refl
visits_by-same (Either first second) count leading one other is same = λ i. 1 + same first is.0 i + same second is.1 i
visits_by-same (Try literal) count leading one other is same =
    λ i. 1 + same literal.next is.next_before i + same literal.otherwise is.otherwise_before i

-- a step may come after more steps
IsStep-more : (step : Step) (count more : ℕ) (leading further : (ℕ → Bool) → ℕ → Bool) → IsStep count leading step → count ≤ more
    → ((held : ℕ → Bool) (place : ℕ) → place < count → further held place ≡ leading held place) → IsStep more further step
IsStep-more Done count more leading further is longer same = tt
IsStep-more Stuck count more leading further is longer same = tt
IsStep-more (Either first second) count more leading further is longer same = (omega arith, omega arith)
IsStep-more (Try literal) count more leading further is longer same = record {
  next_before = omega (arith, is.next_before);
  otherwise_before = omega (arith, is.otherwise_before);
  whole_is = λ whole held elsewhere.
      same held literal.next is.next_before ∙ is.whole_is whole held (sym (same held literal.otherwise is.otherwise_before) ∙ elsewhere);
}

-- one more step changes nothing of the places before it
among-earlier : {X : Type 0} (nothing : X) (of_step : (ℕ → X) → Step → X) (step : Step) (earlier : List Step) (place : ℕ) → place < length earlier
    → among nothing of_step (step ∷ earlier) place ≡ among nothing of_step earlier place
among-earlier nothing of_step step earlier place before =
    let apart : place ≡ length earlier → ⊥ = λ e. absurd (omega arith) in
    ap (λ last. cond last (of_step (among nothing of_step earlier) step) (among nothing of_step earlier place)) (ne_eqb place (length earlier) apart)

-- and its own place has what it has
among-last : {X : Type 0} (nothing : X) (of_step : (ℕ → X) → Step → X) (step : Step) (earlier : List Step)
    → among nothing of_step (step ∷ earlier) (length earlier) ≡ of_step (among nothing of_step earlier) step
among-last nothing of_step step earlier =
    ap (λ last. cond last (of_step (among nothing of_step earlier) step) (among nothing of_step earlier (length earlier)))
    (eq-eqb (length earlier) (length earlier) refl)

-- no other place has anything
among-nowhere : {X : Type 0} (nothing : X) (of_step : (ℕ → X) → Step → X) (steps : List Step) (place : ℕ) → length steps ≤ place
    → among nothing of_step steps place ≡ nothing
among-nowhere nothing of_step [] place past = refl
among-nowhere nothing of_step (step ∷ earlier) place past =
    let apart : place ≡ length earlier → ⊥ = λ e. absurd (omega arith) in
    ap (λ last. cond last (of_step (among nothing of_step earlier) step) (among nothing of_step earlier place)) (ne_eqb place (length earlier) apart)
    ∙ among-nowhere nothing of_step earlier place (omega arith)

-- a step is at a place, in reverse order
pub record IsThere (steps : List Step) (place : ℕ) (step : Step) : Type 0 where
  pub leading : (held : ℕ → Bool) → leads_among held steps place ≡ leads_by held (leads_among held steps) step
  pub visited : among 1 visits_by steps place ≡ visits_by (among 1 visits_by steps) step
  pub fits : IsStep (length steps) (λ held. leads_among held steps) step

there-last : (step : Step) (earlier : List Step) → IsStep (length earlier) (λ held. leads_among held earlier) step → IsThere (step ∷ earlier) (length earlier) step
there-last step earlier is = record {
  leading = λ held.
      among-last false (leads_by held) step earlier
      ∙ leads_by-same step (length earlier) (λ held. leads_among held earlier) held (leads_among held earlier) (leads_among held (step ∷ earlier)) is
      (λ place before. sym (among-earlier false (leads_by held) step earlier place before));
  visited =
      among-last 1 visits_by step earlier
      ∙ visits_by-same step (length earlier) (λ held. leads_among held earlier) (among 1 visits_by earlier) (among 1 visits_by (step ∷ earlier)) is
      (λ place before. sym (among-earlier 1 visits_by step earlier place before));
  fits = IsStep-more step (length earlier) (length (step ∷ earlier)) (λ held. leads_among held earlier) (λ held. leads_among held (step ∷ earlier)) is
      (omega arith) (λ held place before. among-earlier false (leads_by held) step earlier place before);
}

there-earlier : (last step : Step) (earlier : List Step) (place : ℕ) → place < length earlier → IsThere earlier place step → IsThere (last ∷ earlier) place step
there-earlier last step earlier place before is = record {
  leading = λ held.
      among-earlier false (leads_by held) last earlier place before
      ∙ (is.leading held
      ∙ leads_by-same step (length earlier) (λ held. leads_among held earlier) held (leads_among held earlier) (leads_among held (last ∷ earlier)) is.fits
      (λ other earlier_one. sym (among-earlier false (leads_by held) last earlier other earlier_one)));
  visited =
      among-earlier 1 visits_by last earlier place before
      ∙ (is.visited
      ∙ visits_by-same step (length earlier) (λ held. leads_among held earlier) (among 1 visits_by earlier) (among 1 visits_by (last ∷ earlier)) is.fits
      (λ other earlier_one. sym (among-earlier 1 visits_by last earlier other earlier_one)));
  fits = IsStep-more step (length earlier) (length (last ∷ earlier)) (λ held. leads_among held earlier) (λ held. leads_among held (last ∷ earlier)) is.fits
      (omega arith) (λ held other earlier_one. among-earlier false (leads_by held) last earlier other earlier_one);
}

reverse-cons : (last : Step) (earlier : List Step) → reverse (last ∷ earlier) ≡ reverse earlier ++ last ∷ []
reverse-cons last earlier = reverse-append (last ∷ []) earlier

-- the step that a list has at a place is there
pub there : (steps : List Step) (place : ℕ) (step other : Step) → AreSteps steps → place < length steps → get_or (reverse steps) place other ≡ step
    → IsThere steps place step
there [] place step other are within is = absurd (omega arith)
there (last ∷ earlier) place step other are within is =
    let long : length (reverse earlier) ≡ length earlier = length-reverse earlier in
    elim (eqb_tells place (length earlier)) [
      | inl reported ↦
          let at : place ≡ length (reverse earlier) = reported.1 ∙ sym long in
          let found : get_or (reverse (last ∷ earlier)) place other ≡ last =
          ap (λ all. get_or all place other) (reverse-cons last earlier)
          ∙ (ap (λ n. get_or (reverse earlier ++ last ∷ []) n other) at ∙ get_or-append_seam (reverse earlier) last [] other) in
          let same : last ≡ step = sym found ∙ is in
          subst (λ n. IsThere (last ∷ earlier) n step) (sym reported.1)
          (subst (λ one. IsThere (last ∷ earlier) (length earlier) one) same (there-last last earlier are.0))
      | inr reported ↦
          let apart : place ≢ length earlier = reported.1 in
          let before : place < length earlier = omega arith in
          let found : get_or (reverse earlier) place other ≡ step =
          sym (ap (λ all. get_or all place other) (reverse-cons last earlier) ∙ get_or_append_left (reverse earlier) (last ∷ []) other place (omega arith)) ∙ is in
          there-earlier last step earlier place before (there earlier place step other are.1 before found)
    ]

-- the same, in their own order
pub record StandsAt (steps : List Step) (place : ℕ) (step : Step) : Type 0 where
  pub leading : (held : ℕ → Bool) → leads held steps place ≡ leads_by held (leads held steps) step
  pub visited : visits steps place ≡ visits_by (visits steps) step
  pub fits : IsStep (length steps) (λ held. leads held steps) step

pub stands-at : (steps : List Step) (place : ℕ) (step : Step) → ArePlanned steps → place < length steps → step ≡ get_or steps place step
    → StandsAt steps place step
stands-at steps place step planned within is =
    let found : get_or (reverse (reverse steps)) place step ≡ step = ap (λ all. get_or all place step) (reverse-reverse steps) ∙ sym is in
    let got : IsThere (reverse steps) place step = there (reverse steps) place step step planned.are (omega (arith, within, length-reverse steps)) found in
    record {
      leading = got.leading;
      visited = got.visited;
      fits = subst (λ n. IsStep n (λ held. leads held steps) step) (length-reverse steps) got.fits;
    }

-- from no other place there is a way on
pub nowhere : (held : ℕ → Bool) (steps : List Step) (place : ℕ) → length steps ≤ place → leads held steps place ≡ false
nowhere held steps place past = among-nowhere false (leads_by held) (reverse steps) place (omega (arith, past, length-reverse steps))

-- and no other step is visited from there
pub nowhere_visited : (steps : List Step) (place : ℕ) → length steps ≤ place → visits steps place ≡ 1
nowhere_visited steps place past = among-nowhere 1 visits_by (reverse steps) place (omega (arith, past, length-reverse steps))

-- at least one step is visited from each place
visits_by-positive : (onward : ℕ → ℕ) (step : Step) → 1 ≤ visits_by onward step
visits_by-positive onward Done = omega arith
visits_by-positive onward Stuck = omega arith
visits_by-positive onward (Either one other) = omega arith
visits_by-positive onward (Try literal) = omega arith

among-positive : (steps : List Step) (place : ℕ) → 1 ≤ among 1 visits_by steps place
among-positive [] place = omega arith
among-positive (step ∷ earlier) place =
    cond_both (eqb place (length earlier)) (visits_by (among 1 visits_by earlier) step) (among 1 visits_by earlier place) (λ count. 1 ≤ count)
    (λ last. visits_by-positive (among 1 visits_by earlier) step) (λ before. among-positive earlier place)

pub visits-positive : (steps : List Step) (place : ℕ) → 1 ≤ visits steps place
visits-positive steps place = among-positive (reverse steps) place

reverse-added : (steps : List Step) (step : Step) → reverse (steps ++ step ∷ []) ≡ step ∷ reverse steps
reverse-added steps step = reverse-append steps (step ∷ [])

-- one more step leads by what it is
pub leads-added : (held : ℕ → Bool) (steps : List Step) (step : Step) → leads held (steps ++ step ∷ []) (length steps) ≡ leads_by held (leads held steps) step
leads-added held steps step =
    ap (λ all. leads_among held all (length steps)) (reverse-added steps step)
    ∙ (ap (λ n. leads_among held (step ∷ reverse steps) n) (sym (length-reverse steps)) ∙ among-last false (leads_by held) step (reverse steps))

-- from it as many are visited as it says
pub visits-added : (steps : List Step) (step : Step) → visits (steps ++ step ∷ []) (length steps) ≡ visits_by (visits steps) step
visits-added steps step =
    ap (λ all. among 1 visits_by all (length steps)) (reverse-added steps step)
    ∙ (ap (λ n. among 1 visits_by (step ∷ reverse steps) n) (sym (length-reverse steps)) ∙ among-last 1 visits_by step (reverse steps))

-- and it changes nothing of the others
pub IsKept-added : (steps : List Step) (step : Step) → IsKept steps (steps ++ step ∷ [])
IsKept-added steps step = record {
  longer = omega (arith, length-append steps (step ∷ []));
  same = λ held place before.
      ap (λ all. leads_among held all place) (reverse-added steps step)
      ∙ among-earlier false (leads_by held) step (reverse steps) place (omega (arith, before, length-reverse steps));
  visited = λ place before.
      ap (λ all. among 1 visits_by all place) (reverse-added steps step)
      ∙ among-earlier 1 visits_by step (reverse steps) place (omega (arith, before, length-reverse steps));
}

pub ArePlanned-added : (steps : List Step) (step : Step) → ArePlanned steps → IsStep (length steps) (λ held. leads held steps) step → ArePlanned (steps ++ step ∷ [])
ArePlanned-added steps step planned is =
    let fits : IsStep (length (reverse steps)) (λ held. leads_among held (reverse steps)) step =
    subst (λ n. IsStep n (λ held. leads_among held (reverse steps)) step) (sym (length-reverse steps)) is in
    record {
      are = subst AreSteps (sym (reverse-added steps step)) (fits, planned.are);
      stuck = λ held. (IsKept-added steps step).same held 0 planned.some ∙ planned.stuck held;
      stuck_visited = (IsKept-added steps step).visited 0 planned.some ∙ planned.stuck_visited;
      some = omega (arith, planned.some, length-append steps (step ∷ []));
    }

-- what is kept twice is kept
pub IsKept-both : (old mid new : List Step) → IsKept old mid → IsKept mid new → IsKept old new
IsKept-both old mid new first second = record {
  longer = omega (arith, first.longer, second.longer);
  same = λ held place before. second.same held place (omega (arith, before, first.longer)) ∙ first.same held place before;
  visited = λ place before. second.visited place (omega (arith, before, first.longer)) ∙ first.visited place before;
}

pub IsKept-same : (steps : List Step) → IsKept steps steps
IsKept-same steps = record { longer = omega arith; same = λ held place before. refl; visited = λ place before. refl }
