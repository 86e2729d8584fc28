-- What `omega_run` leaves: what the program leaves that obeys the words over these texts.
use Rattle.std.specs.Prelude.{◌≡◌, ◌<◌, ◌==◌, ◌⊎◌, ◌∷◌, ◌++◌, [], Bool, ℕ, List, Option}
use Rattle.std.specs.Prelude.{None, Some, Result, Ok, Err, All, codes, length, string_bytes}
use Rattle.std.specs.List.{slice_split}
use Rattle.std.specs.Str.{IsUtf8}
use Rattle.omega_text.specs.declared.refusal.Refusal.{Refusal}
use Rattle.omega_text.specs.declared.refusal.Refusal.TheVariants.{Memory}
use Rattle.omega_cli_command.specs.declared.request.Request.{Request}
use Rattle.omega_cli_command.specs.declared.request.Request.TheVariants.{Fault}
use Rattle.omega_io.specs.Exit.{refusal_status}
use Rattle.omega_io.specs.RefusalLine.{line_of}
use Rattle.omega_io.specs.Writing.{Tells}
use Rattle.omega_io.specs.declared.unread.Unread.{Unread}
use Rattle.omega_run.specs.Obey.{IsObeyed}
use Rattle.omega_run.specs.World.{Streams, streams}
use Rattle.omega_cli.specs.Words.{IsRequested}
use Rattle.omega_arrays.specs.Room.{laid_over}
use Rattle.omega.specs.declared.running.Ran.{Ran}

-- the byte that ends a word
abbrev pub is_nul : ℕ → Bool
is_nul byte = byte == 0

-- the program's name, and the pieces between the NULs: each but the last is a word, which a NUL ends
abbrev pub pieces_of : List ℕ → List (List ℕ)
pieces_of text = codes "omega" ∷ slice_split is_nul text

-- these are the words, the program's name first, and each is UTF-8; the rest after the last NUL is not read
pub record AreWords (text : List ℕ) (words : List (List ℕ)) : Type 0 where
  pub rest : List ℕ
  pub split : pieces_of text ≡ words ++ rest ∷ []
  pub texts : All IsUtf8 words

-- some word is not UTF-8
pub record HasNoText (text : List ℕ) : Type 0 where
  pub front : List (List ℕ)
  pub word : List ℕ
  pub back : List (List ℕ)
  pub split : pieces_of text ≡ front ++ word ∷ back
  pub ended : 0 < length back
  pub broken : ¬ IsUtf8 word

-- the request is the fault that says that the command line is not UTF-8
abbrev pub TellsNoText : Request → Type 0
TellsNoText (Fault text) = string_bytes text
    ≡ codes "error: the command line is not UTF-8\n\nFor more information, try '--help'.\n"
TellsNoText request = ⊥

-- what the words request, or if one is not UTF-8, the fault that says so
abbrev pub IsRequestOfWords : List ℕ → Request → Type 0
IsRequestOfWords text request = ((words : List (List ℕ)) × AreWords text words × IsRequested words request)
    ⊎ (HasNoText text × TellsNoText request)

-- the words were read as this request, or there was no memory for it
abbrev pub IsAsked : List ℕ → Result Request Refusal → Type 0
IsAsked words (Ok request) = IsRequestOfWords words request
IsAsked words (Err refusal) = refusal ≡ Memory

-- the program obeyed the command line over texts in memory, whatever is left of the input, and so many writes found no
-- memory: no read fails, and the system has no reason for a failure
pub record IsObeyedOver (reads : List ℕ → List ℕ → Type 0) (refuses : List ℕ → Unread → Type 0)
    (asked : Result Request Refusal) (status : ℕ) (reported reported' : Option (List ℕ))
    (failed_tells failed_tells' : ℕ) (before : Streams) (held : Option (List ℕ))
    (failed_writes : ℕ) : Type 0 where
  pub unread : Option (List ℕ)
  pub obeyed : IsObeyed asked status (record {
    reads = reads;
    refuses = refuses;
    before = before;
    after = streams unread 0 None held failed_writes None;
    tells = Tells reported reported' failed_tells failed_tells';
  })

-- the program obeyed the words, with the input, while each file had the text; it wrote the output and the errors. No
-- read and no write failed
pub record IsProgramRun (words input file : List ℕ) (status : ℕ)
    (output errors : List ℕ) : Type 0 where
  pub asked : Result Request Refusal
  pub read : IsAsked words asked
  pub obeyed : IsObeyedOver (λ name text. text ≡ file)
      (λ name unread. unread.refusal ≡ Memory) asked status (Some []) (Some errors) 0 0
      (streams (Some input) 0 None (Some []) 0 None) (Some output) 0

-- there was no memory for what the program writes: the line of that refusal is all that is written
pub record IsWithoutMemory (status : ℕ) (output errors : List ℕ) : Type 0 where
  pub ended : status ≡ refusal_status Memory
  pub silent : output ≡ []
  pub line : errors ≡ line_of Memory

-- what `omega_run` leaves: as much of the output and of the errors as there was room for, and how long they are
pub record IsRunOutcome (words input file : List ℕ) (ran : Ran)
    (output output' errors errors' : List ℕ) : Type 0 where
  pub written : List ℕ
  pub reported : List ℕ
  pub run : IsProgramRun words input file ran.status written reported
      ⊎ IsWithoutMemory ran.status written reported
  pub output_length : ran.output ≡ length written
  pub errors_length : ran.errors ≡ length reported
  pub output_laid : output' ≡ laid_over written output
  pub errors_laid : errors' ≡ laid_over reported errors
