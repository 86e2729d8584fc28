-- The definitions of aliases, one more at a time: what they mean, and whether one of them is wrong.
use Rattle.std.proofs.Common.{◌≡◌, Bool, true, false, ◌||◌, List, [], ◌∷◌, ◌++◌, Option, Some, None, MatchOption, map, is_none, append-nil, append_assoc, refl, ap, sym, ◌∙◌, subst}
use Rattle.std.specs.List.{list_any}
use Rattle.std.specs.Option.{option_to_list}
use Rattle.std.specs.Str.{bytes_eq}
use Rattle.std.proofs.lemmas.List.{map-append}
use Rattle.std.proofs.lemmas.List.Folds.{list_any-append}
use Rattle.omega_text.specs.declared.refusal.Refusal.{Refusal}
use Rattle.omega_text.specs.declared.refusal.Refusal.TheVariants.{Automaton, Circuit, Game, Io, Memory, Task, Text}
use Rattle.omega_text.specs.Cases.{IsMemory}
use Rattle.omega_hoa_label_text.specs.Expanding.{Defined, Entry, Meaning, entries_of, expansion, replaced}
use Rattle.omega_hoa_automaton.specs.Automaton.{has_repeat}
use Rattle.omega_hoa_automaton.specs.Faults.{is_deep, is_large}
use Rattle.omega_hoa_automaton.specs.declared.making.definitions.Definitions.{Definitions}
use Rattle.omega_hoa_automaton.specs.private.layout.Definitions.{AreNoted, HasDefined, IsUndefinable, IsUnnoted, has_wrong_definition, is_named}
use Rattle.omega_hoa_automaton.proofs.Repeats.{has_repeat-front, has_repeat-push, list_any-front, list_any-map, nothing_more, or_both, or_last, shuffled}

-- the entry of a definition after earlier entries
abbrev entry_of : List Entry → Defined → Entry
entry_of before next = record { name = next.name; meaning = replaced before next.body }

-- the entries of more definitions come after those of the first
entries_of-append : (before : List Entry) (xs ys : List Defined) → entries_of before (xs ++ ys) ≡ entries_of before xs ++ entries_of (before ++ entries_of before xs) ys
entries_of-append before [] ys = ap (λ entries. entries_of entries ys) (sym (append-nil before))
entries_of-append before (x ∷ xs) ys =
    ap (λ entries. entry_of before x ∷ entries)
    (entries_of-append (before ++ entry_of before x ∷ []) xs ys
    ∙ ap (λ entries. entries_of (before ++ entry_of before x ∷ []) xs ++ entries_of entries ys)
    (append_assoc before (entry_of before x ∷ []) (entries_of (before ++ entry_of before x ∷ []) xs)))

-- a test of what each definition means, with one more
any_meaning-push : (test : Option Meaning → Bool) (ds : List Defined) (d : Defined)
    → list_any (λ (entry : Entry). test entry.meaning) (entries_of [] (ds ++ d ∷ []))
    ≡ (list_any (λ (entry : Entry). test entry.meaning) (entries_of [] ds) || test (expansion ds d.body))
any_meaning-push test ds d =
    ap (list_any (λ (entry : Entry). test entry.meaning)) (entries_of-append [] ds (d ∷ []))
    ∙ (list_any-append (λ (entry : Entry). test entry.meaning) (entries_of [] ds) (entry_of (entries_of [] ds) d ∷ [])
    ∙ ap (λ b. list_any (λ (entry : Entry). test entry.meaning) (entries_of [] ds) || b) (nothing_more (test (expansion ds d.body))))

-- whether two definitions have one name, with one more
names-push : (ds : List Defined) (d : Defined)
    → has_repeat bytes_eq (map (λ (x : Defined). x.name) (ds ++ d ∷ []))
    ≡ (has_repeat bytes_eq (map (λ (x : Defined). x.name) ds) || is_named ds d.name)
names-push ds d =
    ap (has_repeat bytes_eq) (map-append (λ (x : Defined). x.name) ds (d ∷ []))
    ∙ (has_repeat-push bytes_eq (map (λ (x : Defined). x.name) ds) d.name
    ∙ ap (λ b. has_repeat bytes_eq (map (λ (x : Defined). x.name) ds) || b) (list_any-map (bytes_eq d.name) (λ (x : Defined). x.name) ds))

-- whether a definition is wrong, with one more
wrong-push : (ds : List Defined) (d : Defined)
    → has_wrong_definition (ds ++ d ∷ []) ≡ (has_wrong_definition ds || (is_named ds d.name || is_none (expansion ds d.body)))
wrong-push ds d =
    ap (λ b. b || list_any (λ (entry : Entry). is_none entry.meaning) (entries_of [] (ds ++ d ∷ []))) (names-push ds d)
    ∙ (ap (λ b. (has_repeat bytes_eq (map (λ (x : Defined). x.name) ds) || is_named ds d.name) || b) (any_meaning-push is_none ds d)
    ∙ shuffled (has_repeat bytes_eq (map (λ (x : Defined). x.name) ds)) (is_named ds d.name)
    (list_any (λ (entry : Entry). is_none entry.meaning) (entries_of [] ds)) (is_none (expansion ds d.body)))

-- what is wrong in a front is so in the whole
wrong-front : (xs ys : List Defined) → has_wrong_definition xs ≡ true → has_wrong_definition (xs ++ ys) ≡ true
wrong-front xs ys h =
    or_both (has_repeat bytes_eq (map (λ (x : Defined). x.name) xs)) (list_any (λ (entry : Entry). is_none entry.meaning) (entries_of [] xs))
    (has_repeat bytes_eq (map (λ (x : Defined). x.name) (xs ++ ys))) (list_any (λ (entry : Entry). is_none entry.meaning) (entries_of [] (xs ++ ys)))
    (λ e. rw (map-append (λ (x : Defined). x.name) xs ys) (has_repeat-front bytes_eq (map (λ (x : Defined). x.name) xs) (map (λ (x : Defined). x.name) ys) e))
    (λ e. rw (entries_of-append [] xs ys) (list_any-front (λ (entry : Entry). is_none entry.meaning) (entries_of [] xs) (entries_of (entries_of [] xs) ys) e))
    h

-- one more alias was put last
noted-push : (ds : List Defined) (d : Defined) (old new : Definitions) → AreNoted ds old → HasDefined old d.name d.body new → AreNoted (ds ++ d ∷ []) new
noted-push ds d old new all has =
    let fresh : is_named ds d.name ≡ false = ap (λ x. is_named x d.name) (sym all.aliases) ∙ has.fresh in
    let known : is_none (expansion ds d.body) ≡ false = ap (λ x. is_none (expansion x d.body)) (sym all.aliases) ∙ has.defined in
    record {
      aliases = has.aliases ∙ ap (λ x. x ++ d ∷ []) all.aliases;
      sound = wrong-push ds d ∙ rw (all.sound, fresh, known) refl;
      deep =
          has.deep
          ∙ (ap (λ b. b || is_deep (expansion old.aliases d.body)) all.deep
          ∙ (ap (λ x. list_any (λ (entry : Entry). is_deep entry.meaning) (entries_of [] ds) || is_deep (expansion x d.body)) all.aliases
          ∙ sym (any_meaning-push is_deep ds d)));
      large =
          has.large
          ∙ (ap (λ b. b || is_large (expansion old.aliases d.body)) all.large
          ∙ (ap (λ x. list_any (λ (entry : Entry). is_large entry.meaning) (entries_of [] ds) || is_large (expansion x d.body)) all.aliases
          ∙ sym (any_meaning-push is_large ds d)));
    }

-- one more item was met, which is an alias or not
pub noted-met : (o : Option Defined) (ds : List Defined) (old new : Definitions) → AreNoted ds old
    → MatchOption o (new ≡ old) (λ d. HasDefined old d.name d.body new) → AreNoted (ds ++ option_to_list o) new
noted-met None ds old new all same = rw (append-nil ds) (subst (AreNoted ds) (sym same) all)
noted-met (Some d) ds old new all has = noted-push ds d old new all has

-- one more item that cannot be met
pub unnoted-met : (o : Option Defined) (ds : List Defined) (old : Definitions) (refusal : Refusal) → old.aliases ≡ ds
    → MatchOption o (IsMemory refusal) (λ d. IsUndefinable old d.name d.body refusal) → IsUnnoted (ds ++ option_to_list o) refusal
unnoted-met None ds old (Text fault) is refused = refused
unnoted-met None ds old (Game fault) is refused = refused
unnoted-met None ds old (Circuit fault) is refused = refused
unnoted-met None ds old (Automaton fault) is refused = absurd refused
unnoted-met None ds old (Task fault) is refused = refused
unnoted-met None ds old Memory is refused = refused
unnoted-met None ds old Io is refused = refused
unnoted-met (Some d) ds old (Text fault) is refused = refused
unnoted-met (Some d) ds old (Game fault) is refused = refused
unnoted-met (Some d) ds old (Circuit fault) is refused = refused
unnoted-met (Some d) ds old (Automaton fault) is refused =
    (refused.0, wrong-push ds d ∙ rw (ap (λ x. is_named x d.name || is_none (expansion x d.body)) (sym is) ∙ refused.1) (or_last (has_wrong_definition ds)))
unnoted-met (Some d) ds old (Task fault) is refused = refused
unnoted-met (Some d) ds old Memory is refused = refused
unnoted-met (Some d) ds old Io is refused = refused

-- a refusal for the front of some definitions is one for all of them
pub unnoted-front : (xs ys : List Defined) (refusal : Refusal) → IsUnnoted xs refusal → IsUnnoted (xs ++ ys) refusal
unnoted-front xs ys (Text fault) refused = refused
unnoted-front xs ys (Game fault) refused = refused
unnoted-front xs ys (Circuit fault) refused = refused
unnoted-front xs ys (Automaton fault) refused = (refused.0, wrong-front xs ys refused.1)
unnoted-front xs ys (Task fault) refused = refused
unnoted-front xs ys Memory refused = refused
unnoted-front xs ys Io refused = refused
