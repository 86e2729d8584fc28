-- What a run over texts in memory leaves, said of the texts.
use Rattle.std.proofs.Common.{◌≡◌, ◌++◌, ◌∷◌, ◌∙◌, ℕ, List, [], Option, None, Some, Result, Ok, Err, IfOk, IsOkUnless, ap, codes, decimal, lit<, lit≤, refl, subst}
use Rattle.std.proofs.lemmas.Fmt.{decimal_digit, decimal_step}
use Rattle.omega_text.specs.declared.refusal.Refusal.{Refusal}
use Rattle.omega_text.specs.declared.refusal.Refusal.TheVariants.{Memory}
use Rattle.omega_cli_command.specs.declared.request.Request.{Request}
use Rattle.omega_io.specs.RefusalLine.{line_of}
use Rattle.omega_io.specs.declared.reason.Reason.{Reason}
use Rattle.omega_run.specs.World.{streams}
use Rattle.omega.specs.Running.{IsAsked, IsRequestOfWords, IsObeyedOver}

-- the line for want of memory
pub memory_line : codes "omega: 60 Memory\n" ≡ line_of Memory
memory_line =
    let sixty : decimal 60 ≡ codes "60" =
    decimal_step 60 (lit≤ tt) (lit< tt) ∙ ap (λ ds. ds ++ (48 ∷ [])) (decimal_digit 6 (lit< tt)) in
    rw sixty refl

-- words that were read, or not for want of memory
pub asked_is : (words : List ℕ) (asked : Result Request Refusal) → IfOk asked (IsRequestOfWords words) → IsOkUnless asked Memory → IsAsked words asked
asked_is words (Ok request) is memory = is
asked_is words (Err refusal) is memory = memory

module _ (asked : Result Request Refusal) (status : ℕ) (text file input output errors : List ℕ)
    (reported reported' unread held held' : Option (List ℕ)) (tells tells' reads writes writes' : ℕ) (read_reason write_reason : Option Reason) where
  -- what a run leaves, of a file, streams and tellings that are these
  abbrev Left : List ℕ → (reported reported' : Option (List ℕ)) → (tells tells' : ℕ) → (unread : Option (List ℕ)) → ℕ → Option Reason → (held : Option (List ℕ)) → ℕ
      → Option Reason → Option (List ℕ) → ℕ → Type 0
  Left text reported reported' tells tells' unread reads read_reason held writes write_reason held' writes' =
      IsObeyedOver (λ name read. read ≡ text) (λ name unread. unread.refusal ≡ Memory) asked status reported reported' tells tells'
      (streams unread reads read_reason held writes write_reason) held' writes'

  -- the same run, if it wrote these texts, and no write failed
  pub left_over : text ≡ file → reported ≡ Some [] → reported' ≡ Some errors → tells ≡ 0 → tells' ≡ 0 → unread ≡ Some input → reads ≡ 0 → read_reason ≡ None → held ≡ Some []
      → writes ≡ 0 → write_reason ≡ None → held' ≡ Some output → writes' ≡ 0
      → Left text reported reported' tells tells' unread reads read_reason held writes write_reason held' writes'
      → Left file (Some []) (Some errors) 0 0 (Some input) 0 None (Some []) 0 None (Some output) 0
  left_over e1 e2 e3 e4 e5 e6 e7 e8 e9 e10 e11 e12 e13 h =
      subst (λ (x : List ℕ). Left x (Some []) (Some errors) 0 0 (Some input) 0 None (Some []) 0 None (Some output) 0) e1
      (subst (λ (x : Option (List ℕ)). Left text x (Some errors) 0 0 (Some input) 0 None (Some []) 0 None (Some output) 0) e2
      (subst (λ (x : Option (List ℕ)). Left text reported x 0 0 (Some input) 0 None (Some []) 0 None (Some output) 0) e3
      (subst (λ (x : ℕ). Left text reported reported' x 0 (Some input) 0 None (Some []) 0 None (Some output) 0) e4
      (subst (λ (x : ℕ). Left text reported reported' tells x (Some input) 0 None (Some []) 0 None (Some output) 0) e5
      (subst (λ (x : Option (List ℕ)). Left text reported reported' tells tells' x 0 None (Some []) 0 None (Some output) 0) e6
      (subst (λ (x : ℕ). Left text reported reported' tells tells' unread x None (Some []) 0 None (Some output) 0) e7
      (subst (λ (x : Option Reason). Left text reported reported' tells tells' unread reads x (Some []) 0 None (Some output) 0) e8
      (subst (λ (x : Option (List ℕ)). Left text reported reported' tells tells' unread reads read_reason x 0 None (Some output) 0) e9
      (subst (λ (x : ℕ). Left text reported reported' tells tells' unread reads read_reason held x None (Some output) 0) e10
      (subst (λ (x : Option Reason). Left text reported reported' tells tells' unread reads read_reason held writes x (Some output) 0) e11
      (subst (λ (x : Option (List ℕ)). Left text reported reported' tells tells' unread reads read_reason held writes write_reason x 0) e12
      (subst (λ (x : ℕ). Left text reported reported' tells tells' unread reads read_reason held writes write_reason held' x) e13 h))))))))))))
