-- The loop of `words_in`: the words so far and the pieces of the rest are the pieces of all, and each word is UTF-8.
use Rattle.std.proofs.Common.{◌≡◌, ◌++◌, All, length, map}
use Rattle.std.specs.Prelude.{string_bytes}
use Rattle.std.specs.List.{slice_split}
use Rattle.std.specs.Str.{IsUtf8}
use Rattle.omega.specs.Running.{is_nul, pieces_of}
use Rattle.omega.proofs.running.words.words_in.Given as goal

abbrev pub invariant-loop-end : goal.invariant-loop-end
invariant-loop-end l = record {
  pieces : pieces_of l.text ≡ map string_bytes l.words.items ++ slice_split is_nul l.rest;
  texts : All IsUtf8 (map string_bytes l.words.items);
}

abbrev pub decreases-loop-end : goal.decreases-loop-end
decreases-loop-end l = length l.rest
