-- The names that a caller lists for a formula, and how they part its names.
use Rattle.std.specs.Prelude.{◌-◌, Bool, true, false, List, ℕ, None, Some, length, take}
use Rattle.std.specs.List.{slice_split}
use Rattle.omega_answers_synth.specs.Outputs.{NameLists}
use Rattle.omega.specs.Running.{is_nul}

-- the pieces of a text between its NULs
abbrev pub pieces_between : List ℕ → List (List ℕ)
pieces_between text = slice_split is_nul text

-- the names that a text lists, each ended by a NUL: what stands after the last NUL is none
abbrev pub names_of : List ℕ → List (List ℕ)
names_of text = take (length (pieces_between text) - 1) (pieces_between text)

-- one list of names is given: that of the environment's, or else that of the system's
abbrev pub one_list : (inputs : Bool) → (names : List (List ℕ)) → NameLists
one_list true names = record { outs = None; ins = Some names }
one_list false names = record { outs = Some names; ins = None }

-- so it is given by a caller
abbrev pub lists_by : (inputs : Bool) → (text : List ℕ) → NameLists
lists_by inputs text = one_list inputs (names_of text)
