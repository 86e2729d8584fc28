-- Lines judged one by one.
use Rattle.std.proofs.Common.{◌≡◌, ℕ, ◌<◌, Bool, true, false, Option, Some, None, IfNone, Result, Ok, Err, OnOk, List, [], ◌∷◌, ◌++◌, length, get_or, ap, sym, ◌∙◌, subst, arith, below_more, length-append}
use Rattle.std.specs.Prelude.{is_some}
use Rattle.std.proofs.Math.ListN.{get_or-append}
use Rattle.std.proofs.Math.Seq.{get_or-append_seam}
use Rattle.omega_game_values.specs.Game.{Node, owner_at}
use Rattle.omega_game_values.specs.declared.player.Player.{Player}
use Rattle.omega_game_values.specs.declared.player.Player.TheVariants.{One, Zero}
use Rattle.omega_pg.specs.solution.Grammar.{SolutionLine, no_line}
use Rattle.omega_pg.specs.private.solution.reader.Lines.{AreJudged, AreSaid, IsKept, IsWrongLine, Says, entry_of}

-- a mapped option is none if the option is
pub none_mapped : {A B : Type 0} (o : Option A) (p : Option B) (P Q : Type 0) → is_some p ≡ is_some o → (P → Q) → IfNone o P → IfNone p Q
none_mapped None None P Q e f h = f h
none_mapped None (Some y) P Q e f h = tt
none_mapped (Some x) None P Q e f h = absurd (let clash : false ≡ true = e in cc)
none_mapped (Some x) (Some y) P Q e f h = tt

-- a wrong line stays wrong
pub judged_wrong : (nodes : List Node) (lines more : List SolutionLine) (good : Bool) (winners : List Player) (zero one : List (Option ℕ)) → good ≡ false
    → AreJudged nodes lines good winners zero one → AreJudged nodes (lines ++ more) good winners zero one
judged_wrong nodes lines more true winners zero one e judged = absurd (let clash : true ≡ false = e in cc)
judged_wrong nodes lines more false winners zero one e judged = record {
  place = judged.place;
  inside = omega (arith, judged.inside, length-append lines more);
  wrong = subst (IsWrongLine nodes judged.place) (sym (get_or-append lines more no_line judged.place judged.inside)) judged.wrong;
}

-- a line that is said is kept
kept_more : (nodes : List Node) (lines : List SolutionLine) (line : SolutionLine) (choice : Option ℕ) (winners : List Player) (zero one : List (Option ℕ))
    → Says nodes (length winners) line choice → AreSaid nodes lines winners zero one
    → AreSaid nodes (lines ++ line ∷ []) (winners ++ line.winner ∷ [])
    (zero ++ entry_of Zero (owner_at nodes (length winners)) choice ∷ []) (one ++ entry_of One (owner_at nodes (length winners)) choice ∷ [])
kept_more nodes lines line choice winners zero one says said =
    let n = length winners in
    let zs = entry_of Zero (owner_at nodes n) choice in
    let os = entry_of One (owner_at nodes n) choice in
    let P : ℕ → Type 0 = λ v. IsKept nodes v (get_or (lines ++ line ∷ []) v no_line) (get_or (winners ++ line.winner ∷ []) v Zero)
    (get_or (zero ++ zs ∷ []) v None) (get_or (one ++ os ∷ []) v None) in
    let below : (v : ℕ) → v < n → P v = λ v h.
    subst (λ x. IsKept nodes v x (get_or (winners ++ line.winner ∷ []) v Zero) (get_or (zero ++ zs ∷ []) v None) (get_or (one ++ os ∷ []) v None))
    (sym (get_or-append lines (line ∷ []) no_line v (omega (arith, h, said.winners_count))))
    (subst (λ x. IsKept nodes v (get_or lines v no_line) x (get_or (zero ++ zs ∷ []) v None) (get_or (one ++ os ∷ []) v None))
    (sym (get_or-append winners (line.winner ∷ []) Zero v h))
    (subst (λ x. IsKept nodes v (get_or lines v no_line) (get_or winners v Zero) x (get_or (one ++ os ∷ []) v None))
    (sym (get_or-append zero (zs ∷ []) None v (omega (arith, h, said.winners_count, said.zero_count))))
    (subst (λ x. IsKept nodes v (get_or lines v no_line) (get_or winners v Zero) (get_or zero v None) x)
    (sym (get_or-append one (os ∷ []) None v (omega (arith, h, said.winners_count, said.one_count))))
    (said.said v (omega (arith, h, said.winners_count)))))) in
    let at_line : get_or (lines ++ line ∷ []) n no_line ≡ line =
    ap (λ k. get_or (lines ++ line ∷ []) k no_line) said.winners_count ∙ get_or-append_seam lines line [] no_line in
    let at_winner : get_or (winners ++ line.winner ∷ []) n Zero ≡ line.winner = get_or-append_seam winners line.winner [] Zero in
    let at_zero : get_or (zero ++ zs ∷ []) n None ≡ zs =
    ap (λ k. get_or (zero ++ zs ∷ []) k None) (said.winners_count ∙ sym said.zero_count) ∙ get_or-append_seam zero zs [] None in
    let at_one : get_or (one ++ os ∷ []) n None ≡ os =
    ap (λ k. get_or (one ++ os ∷ []) k None) (said.winners_count ∙ sym said.one_count) ∙ get_or-append_seam one os [] None in
    let here : P n = record {
      choice = choice;
      says = subst (λ x. Says nodes n x choice) (sym at_line) says;
      winner_kept = at_winner ∙ ap (λ (x : SolutionLine). x.winner) (sym at_line);
      zero_kept = at_zero;
      one_kept = at_one;
    } in
    record {
      winners_count = omega (arith, length-append winners (line.winner ∷ []), length-append lines (line ∷ []), said.winners_count);
      zero_count = omega (arith, length-append zero (zs ∷ []), length-append lines (line ∷ []), said.zero_count);
      one_count = omega (arith, length-append one (os ∷ []), length-append lines (line ∷ []), said.one_count);
      said = λ v h. below_more P n below here v (omega (arith, h, length-append lines (line ∷ []), said.winners_count));
    }

-- the same, as a call leaves it
pub judged_kept : (nodes : List Node) (lines : List SolutionLine) (line : SolutionLine) (choice : Option ℕ) (good after : Bool)
    (winners winners' : List Player) (zero zero' one one' : List (Option ℕ)) (place : ℕ) (owner : Player)
    → place ≡ length winners → owner ≡ owner_at nodes place → good ≡ true → after ≡ good → Says nodes place line choice
    → winners' ≡ winners ++ line.winner ∷ [] → zero' ≡ zero ++ entry_of Zero owner choice ∷ [] → one' ≡ one ++ entry_of One owner choice ∷ []
    → AreJudged nodes lines good winners zero one → AreJudged nodes (lines ++ line ∷ []) after winners' zero' one'
judged_kept nodes lines line choice false after winners winners' zero zero' one one' place owner p q e f says w z o judged =
    absurd (let clash : false ≡ true = e in cc)
judged_kept nodes lines line choice true false winners winners' zero zero' one one' place owner p q e f says w z o judged =
    absurd (let clash : false ≡ true = f in cc)
judged_kept nodes lines line choice true true winners winners' zero zero' one one' place owner p q e f says w z o judged =
    let own : owner ≡ owner_at nodes (length winners) = q ∙ ap (owner_at nodes) p in
    let kept = kept_more nodes lines line choice winners zero one (subst (λ v. Says nodes v line choice) p says) judged in
    subst (λ x. AreSaid nodes (lines ++ line ∷ []) x zero' one') (sym w)
    (subst (λ x. AreSaid nodes (lines ++ line ∷ []) (winners ++ line.winner ∷ []) x one') (sym (z ∙ ap (λ x. zero ++ entry_of Zero x choice ∷ []) own))
    (subst (λ x. AreSaid nodes (lines ++ line ∷ []) (winners ++ line.winner ∷ []) (zero ++ entry_of Zero (owner_at nodes (length winners)) choice ∷ []) x)
    (sym (o ∙ ap (λ x. one ++ entry_of One x choice ∷ []) own)) kept))

-- what holds on success of four facts
pub on_ok_4 : {T E : Type 0} (result : Result T E) (A B C D F : Type 0) → OnOk result A → OnOk result B → OnOk result C → OnOk result D
    → (A → B → C → D → F) → OnOk result F
on_ok_4 (Ok x) A B C D F a b c d f = f a b c d
on_ok_4 (Err e) A B C D F a b c d f = tt
