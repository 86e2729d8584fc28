-- Whether a label can be true, and how many propositions it mentions.
use Rattle.std.specs.Prelude.{◌≡◌, ℕ, ◌≤◌, ◌<◌, Bool, ◌==◌, ◌↔◌, IsTrue}
use Rattle.std.specs.Prelude.{if◌then◌else◌, List, [], ◌∷◌, ◌++◌, length}
use Rattle.std.specs.List.{list_any}
use Rattle.omega_text.specs.Cases.{never, or_task}
use Rattle.omega_text.specs.declared.refusal.Refusal.{Refusal}
use Rattle.omega_text.specs.declared.refusal.task.TaskFault.TheVariants.{TooManyPropositions}
use Rattle.omega_hoa_label.specs.Label.{LabelTree, propositions, truth}
use Rattle.omega_hoa_expression.specs.Limits.{most_mentioned}

-- numbers and then those of a list that are not among the ones before them
abbrev pub each_once : List ℕ → List ℕ → List ℕ
each_once numbers [] = numbers
each_once numbers (next ∷ rest) =
    each_once (if list_any (λ number. number == next) numbers then numbers
    else numbers ++ next ∷ []) rest

-- the propositions that a label mentions, each once
abbrev pub mentioned : LabelTree → List ℕ
mentioned tree = each_once [] (propositions tree)

-- some set of propositions makes the label true
abbrev pub IsSatisfiable : LabelTree → Type 0
IsSatisfiable tree = (held : ℕ → Bool) × IsTrue (truth held tree)

-- the label mentions no more propositions than the limit, and the answer says whether it can be true
pub record IsJudged (tree : LabelTree) (possible : Bool) : Type 0 where
  pub within : length (mentioned tree) ≤ most_mentioned
  pub judged : IsTrue possible ↔ IsSatisfiable tree

-- the label mentions more propositions than the limit
abbrev pub IsOverMentioned : LabelTree → Refusal → Type 0
IsOverMentioned tree = or_task
    (λ fault. (fault ≡ TooManyPropositions) × (most_mentioned < length (mentioned tree))) never
