-- The edges that leave each state, one edge more.
use Rattle.std.proofs.Common.{◌≡◌, ℕ, ◌+◌, ◌<◌, inl, inr, List, [], ◌∷◌, ◌++◌, length, get_or, set, Contains, sym, ap, ◌∙◌, subst, arith, replicate}
use Rattle.std.proofs.lemmas.Bool.{cases_eq}
use Rattle.std.proofs.lemmas.List.{get_or-replicate, get_or-set_other, get_or-set_same, length-replicate, length-set}
use Rattle.std.proofs.lemmas.List.Elements.{Contains-append_left, Contains-push, Contains-push_cases}
use Rattle.omega_lang_runs.specs.declared.place.EdgePlace.{EdgePlace}
use Rattle.omega_synth_check.specs.private.Leaving.{AreListed, StandsBelow, no_place}

pub listed_none : (places : List EdgePlace) (states : ℕ) (lists : List (List ℕ)) → lists ≡ replicate states [] → AreListed places states 0 lists
listed_none places states lists is = record {
  entries = ap length is ∙ length-replicate states [];
  each = λ index number below. (
    λ has. absurd (let none : Contains [] number = subst (λ (list : List ℕ). Contains list number) (ap (λ (all : List (List ℕ)). get_or all index []) is ∙ get_or-replicate states index [] [] below) has in omega (arith, none.1)),
    λ stands. absurd (omega (arith, stands.0)),
  );
}

module _ (places : List EdgePlace) (states end own_index : ℕ) (lists : List (List ℕ)) (are : AreListed places states end lists)
    (index_is : own_index ≡ (get_or places end no_place).state) (index_below : own_index < states) where
  abbrev longer : List (List ℕ)
  longer = set lists own_index (get_or lists own_index [] ++ end ∷ [])

  own : get_or longer own_index [] ≡ get_or lists own_index [] ++ end ∷ []
  own = get_or-set_same lists own_index (get_or lists own_index [] ++ end ∷ []) [] (omega (arith, index_below, are.entries))

  later : (index number : ℕ) → StandsBelow places end index number → StandsBelow places (end + 1) index number
  later index number stands = (omega (arith, stands.0), stands.1)

  pub listed_more : AreListed places states (end + 1) longer
  listed_more = record {
    entries = length-set lists own_index (get_or lists own_index [] ++ end ∷ []) ∙ are.entries;
    each = λ index number below.
        elim (cases_eq index own_index) [
          | inl same ↦ (
            λ has. elim (Contains-push_cases (get_or lists own_index []) end number (subst (λ (list : List ℕ). Contains list number) (ap (λ s. get_or longer s []) same ∙ own) has)) [
              | inl old ↦ later index number ((are.each index number below).0 (subst (λ (s : ℕ). Contains (get_or lists s []) number) (sym same) old))
              | inr last ↦ (omega (arith, last), ap (λ n. (get_or places n no_place).state) (sym last) ∙ sym index_is ∙ sym same)
            ],
            λ stands. subst (λ (list : List ℕ). Contains list number) (sym (ap (λ s. get_or longer s []) same ∙ own))
                (elim (cases_eq number end) [
                  | inl last ↦ subst (λ (n : ℕ). Contains (get_or lists own_index [] ++ end ∷ []) n) (sym last) (Contains-push (get_or lists own_index []) end)
                  | inr apart ↦ Contains-append_left (get_or lists own_index []) (end ∷ []) number
                      (subst (λ (s : ℕ). Contains (get_or lists s []) number) same ((are.each index number below).1 (omega (arith, stands.0, apart), stands.1)))
                ]),
          )
          | inr apart ↦
              let other : get_or longer index [] ≡ get_or lists index [] = get_or-set_other lists own_index index (get_or lists own_index [] ++ end ∷ []) [] apart in (
                λ has. later index number ((are.each index number below).0 (subst (λ (list : List ℕ). Contains list number) other has)),
                λ stands. subst (λ (list : List ℕ). Contains list number) (sym other)
                    (elim (cases_eq number end) [
                      | inl last ↦ absurd (apart (sym stands.1 ∙ ap (λ n. (get_or places n no_place).state) last ∙ sym index_is))
                      | inr before ↦ (are.each index number below).1 (omega (arith, stands.0, before), stands.1)
                    ]),
              )
        ];
  }
