-- What the words of a command line request.
use Rattle.std.specs.Prelude.{◌≡◌, ◌⊎◌, ◌==◌, ◌&&◌, ◌||◌, Bool, not, List, [], codes, if◌then◌else◌}
use Rattle.std.specs.Prelude.{length, nat_lt, slice_index_or}
use Rattle.std.specs.List.{swap}
use Rattle.std.specs.Str.{bytes_eq}
use Rattle.clap.specs.Words.{IsAmong, Text, fault_of, subcommand_of}
use Rattle.clap.specs.declared.error.kind.ErrorKind.{ErrorKind}
use Rattle.omega_cli.specs.Program.{program}
use Rattle.omega_cli.specs.Found.{IsPrinted, IsRequestFound}
use Rattle.omega_cli_command.specs.declared.request.Request.{Request}

-- the words, the program's name first, request this as they stand. If `clap` finds no fault in them, it is what the
-- subcommand and the options request that it finds. Else it is a text of one of the kinds that `clap` finds: help, the
-- version, or what is wrong
abbrev pub IsRequestedSo : List Text → Request → Type 0
IsRequestedSo words request =
    ((fault_of program words ≡ []) × IsRequestFound (subcommand_of program words) request)
    ⊎ ((kind : ErrorKind) × IsAmong kind (fault_of program words) × IsPrinted kind request)

-- the flag for more on a refusal than its line
abbrev pub is_verbose : Text → Bool
is_verbose word = bytes_eq word (codes "-v") || bytes_eq word (codes "--verbose")

-- a word that is no option; 45 is the dash
abbrev pub is_name : Text → Bool
is_name word = not (slice_index_or word 0 0 == 45)

-- the flag stands before a name
abbrev pub is_flag_first : List Text → Bool
is_flag_first words = nat_lt 2 (length words)
    && (is_verbose (slice_index_or words 1 []) && is_name (slice_index_or words 2 []))

-- what the words mean: a flag for more on a refusal that stands before the name of the subcommand belongs behind it
abbrev pub meant_words : List Text → List Text
meant_words words = if is_flag_first words then swap words 1 2 else words

-- the words, the program's name first, request this by what they mean
abbrev pub IsRequested : List Text → Request → Type 0
IsRequested words request = IsRequestedSo (meant_words words) request
