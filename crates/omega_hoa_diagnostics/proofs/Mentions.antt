-- The first wrong mention of an alias, mention by mention.
use Rattle.std.proofs.Common.{◌≡◌, ℕ, ◌+◌, ◌<◌, Bool, true, false, cond, Option, Some, List, ◌∷◌, length, get_or, drop, map, ap, sym, ◌∙◌, subst}
use Rattle.std.proofs.lemmas.List.{get_or-map, length-map}
use Rattle.omega_hoa_diagnostics.specs.Aliases.{AliasMention, first_wrong_alias, is_wrong, names_after}
use Rattle.omega_hoa_diagnostics.specs.declared.aliases.AliasMention.{AliasMention as Mention}
use Rattle.omega_hoa_diagnostics.specs.private.AliasReading.{as_said}
use Rattle.omega_hoa_diagnostics.proofs.Repeats.{next_of}

-- a mention and those after it
mention_next : (mentions : List Mention) (i : ℕ) (d : Mention) → i < length mentions
    → drop i (map as_said mentions) ≡ as_said (get_or mentions i d) ∷ drop (i + 1) (map as_said mentions)
mention_next mentions i d within =
    let here = as_said (get_or mentions i d) in
    let inside : i < length (map as_said mentions) = simp length-map within in
    next_of (map as_said mentions) i here here inside (sym (get_or-map as_said mentions i d here within))

-- a wrong mention is the first
pub wrong_here : (mentions : List Mention) (names : List (List ℕ)) (i : ℕ) (d : Mention) (wrong : Bool) (found : Option AliasMention) → i < length mentions
    → wrong ≡ is_wrong names (as_said (get_or mentions i d)) → wrong ≡ true → first_wrong_alias names (drop i (map as_said mentions)) ≡ found
    → Some (as_said (get_or mentions i d)) ≡ found
wrong_here mentions names i d wrong found within says is so_far =
    let here = as_said (get_or mentions i d) in
    let left = drop (i + 1) (map as_said mentions) in
    sym (ap (λ b. cond b (Some here) (first_wrong_alias (names_after names here) left)) (sym says ∙ is))
    ∙ subst (λ all. first_wrong_alias names all ≡ found) (mention_next mentions i d within) so_far

-- a mention that is not wrong is passed
pub wrong_later : (mentions : List Mention) (names more : List (List ℕ)) (i : ℕ) (d : Mention) (wrong : Bool) (found : Option AliasMention) → i < length mentions
    → wrong ≡ is_wrong names (as_said (get_or mentions i d)) → wrong ≡ false → more ≡ names_after names (as_said (get_or mentions i d))
    → first_wrong_alias names (drop i (map as_said mentions)) ≡ found → first_wrong_alias more (drop (i + 1) (map as_said mentions)) ≡ found
wrong_later mentions names more i d wrong found within says is put so_far =
    let here = as_said (get_or mentions i d) in
    let left = drop (i + 1) (map as_said mentions) in
    ap (λ these. first_wrong_alias these left) put
    ∙ sym (ap (λ b. cond b (Some here) (first_wrong_alias (names_after names here) left)) (sym says ∙ is))
    ∙ subst (λ all. first_wrong_alias names all ≡ found) (mention_next mentions i d within) so_far
