-- The edges that leave each state, one edge more.
use Rattle.std.proofs.Common.{◌≡◌, ℕ, ◌+◌, ◌<◌, inl, inr, List, [], ◌∷◌, ◌++◌, length, get_or, set, Contains, sym, ap, ◌∙◌, subst, arith, length-append, replicate}
use Rattle.std.specs.List.Sorted.{IsStrictlyIncreasing}
use Rattle.std.proofs.Math.Seq.{get_or-append_seam}
use Rattle.std.proofs.lemmas.Bool.{cases_eq}
use Rattle.std.proofs.lemmas.List.{get_or-replicate, get_or-set_other, get_or-set_same, get_or_append_left, length-replicate, length-set}
use Rattle.std.proofs.lemmas.List.Elements.{Contains-append_left, Contains-get_or, Contains-push, Contains-push_cases}
use Rattle.omega_synth_rounds.specs.Rounds.{no_edge}
use Rattle.omega_synth_rounds.specs.declared.rounds.RoundEdge.{RoundEdge}
use Rattle.omega_synth_game.specs.private.Making.{AreLeaving, LeavesBelow}

pub leaving_none : (edges : List RoundEdge) (states : ℕ) (lists : List (List ℕ)) → lists ≡ replicate states [] → AreLeaving edges states 0 lists
leaving_none edges states lists is = record {
  entries = ap length is ∙ length-replicate states [];
  each = λ state number below. (
    λ has. absurd (let none : Contains [] number = subst (λ (list : List ℕ). Contains list number) (ap (λ (all : List (List ℕ)). get_or all state []) is ∙ get_or-replicate states state [] [] below) has in omega (arith, none.1)),
    λ leaves. absurd (omega (arith, leaves.0)),
  );
  rising = λ state below k within.
      absurd (let none : length (get_or lists state []) ≡ 0 = ap length (ap (λ (all : List (List ℕ)). get_or all state []) is ∙ get_or-replicate states state [] [] below) in omega (arith, within, none));
}

-- a number above those of a rising list, behind them
rising_more : (xs : List ℕ) (end : ℕ) → IsStrictlyIncreasing xs → ((n : ℕ) → Contains xs n → n < end) → IsStrictlyIncreasing (xs ++ end ∷ [])
rising_more xs end rising below k within = elim (cases_eq (k + 1) (length xs)) [
  | inl last ↦
      let here : k < length xs = omega arith in
      let kept : get_or (xs ++ end ∷ []) k 0 ≡ get_or xs k 0 = get_or_append_left xs (end ∷ []) 0 k here in
      let seam : get_or (xs ++ end ∷ []) (k + 1) 0 ≡ end = ap (λ n. get_or (xs ++ end ∷ []) n 0) last ∙ get_or-append_seam xs end [] 0 in
      omega (arith, kept, seam, below (get_or xs k 0) (Contains-get_or xs k 0 here))
  | inr apart ↦
      let early : k + 1 < length xs = omega (arith, within, apart, length-append xs (end ∷ [])) in
      let here : k < length xs = omega arith in
      let kept : get_or (xs ++ end ∷ []) k 0 ≡ get_or xs k 0 = get_or_append_left xs (end ∷ []) 0 k here in
      let next : get_or (xs ++ end ∷ []) (k + 1) 0 ≡ get_or xs (k + 1) 0 = get_or_append_left xs (end ∷ []) 0 (k + 1) early in
      omega (arith, kept, next, rising k early)
]

module _ (edges : List RoundEdge) (states end source : ℕ) (lists : List (List ℕ)) (are : AreLeaving edges states end lists)
    (source_is : source ≡ (get_or edges end no_edge).source) (source_below : source < states) where
  abbrev longer : List (List ℕ)
  longer = set lists source (get_or lists source [] ++ end ∷ [])

  own : get_or longer source [] ≡ get_or lists source [] ++ end ∷ []
  own = get_or-set_same lists source (get_or lists source [] ++ end ∷ []) [] (omega (arith, source_below, are.entries))

  later : (state number : ℕ) → LeavesBelow edges end state number → LeavesBelow edges (end + 1) state number
  later state number leaves = (omega (arith, leaves.0), leaves.1)

  pub leaving_more : AreLeaving edges states (end + 1) longer
  leaving_more = record {
    entries = length-set lists source (get_or lists source [] ++ end ∷ []) ∙ are.entries;
    each = λ state number below.
        elim (cases_eq state source) [
          | inl same ↦ (
            λ has. elim (Contains-push_cases (get_or lists source []) end number (subst (λ (list : List ℕ). Contains list number) (ap (λ s. get_or longer s []) same ∙ own) has)) [
              | inl old ↦ later state number ((are.each state number below).0 (subst (λ (s : ℕ). Contains (get_or lists s []) number) (sym same) old))
              | inr last ↦ (omega (arith, last), ap (λ n. (get_or edges n no_edge).source) (sym last) ∙ sym source_is ∙ sym same)
            ],
            λ leaves. subst (λ (list : List ℕ). Contains list number) (sym (ap (λ s. get_or longer s []) same ∙ own))
                (elim (cases_eq number end) [
                  | inl last ↦ subst (λ (n : ℕ). Contains (get_or lists source [] ++ end ∷ []) n) (sym last) (Contains-push (get_or lists source []) end)
                  | inr apart ↦ Contains-append_left (get_or lists source []) (end ∷ []) number
                      (subst (λ (s : ℕ). Contains (get_or lists s []) number) same ((are.each state number below).1 (omega (arith, leaves.0, apart), leaves.1)))
                ]),
          )
          | inr apart ↦
              let other : get_or longer state [] ≡ get_or lists state [] = get_or-set_other lists source state (get_or lists source [] ++ end ∷ []) [] apart in (
                λ has. later state number ((are.each state number below).0 (subst (λ (list : List ℕ). Contains list number) other has)),
                λ leaves. subst (λ (list : List ℕ). Contains list number) (sym other)
                    (elim (cases_eq number end) [
                      | inl last ↦ absurd (apart (sym leaves.1 ∙ ap (λ n. (get_or edges n no_edge).source) last ∙ sym source_is))
                      | inr before ↦ (are.each state number below).1 (omega (arith, leaves.0, before), leaves.1)
                    ]),
              )
        ];
    rising = λ state below. elim (cases_eq state source) [
      | inl same ↦
          subst IsStrictlyIncreasing (sym (ap (λ s. get_or longer s []) same ∙ own))
          (rising_more (get_or lists source []) end (are.rising source source_below) (λ n has. ((are.each source n source_below).0 has).0))
      | inr apart ↦
          subst IsStrictlyIncreasing (sym (get_or-set_other lists source state (get_or lists source [] ++ end ∷ []) [] apart)) (are.rising state below)
    ];
  }
