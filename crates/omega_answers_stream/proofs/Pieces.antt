-- The part of a stream that was read so far, and its end.
use Rattle.std.proofs.Common.{◌≡◌, ℕ, ◌+◌, ◌≤◌, List, [], ◌++◌, Option, None, Some, length, inl, inr, refl, arith, length-append}
use Rattle.std.proofs.KnownBytes.{Consumes-trans}
use Rattle.std.specs.Io.KnownBytes.{Consumes}
use Rattle.std.specs.Prelude.{IfErr, Result, Err, Ok}
use Rattle.omega_text.specs.Cases.{or_io, or_memory}
use Rattle.omega_text.specs.Limits.{most_text}
use Rattle.omega_text.specs.declared.refusal.Refusal.{Refusal}
use Rattle.omega_text.specs.declared.refusal.Refusal.TheVariants.{Automaton, Circuit, Game, Io, Memory, Task, Text}
use Rattle.omega_io.specs.Failures.{failures_of}
use Rattle.omega_io.specs.Reading.{IsRead, ReadsText}
use Rattle.omega_hoa.specs.Stream.{IsStreamRefusal}
use Rattle.omega_hoa.specs.declared.item.Item.{Item}
use Rattle.omega_answers_stream.specs.declared.asked.Asked.{Asked}
use Rattle.omega_answers_stream.specs.declared.asking.Asking.{Asking}
use Rattle.omega_answers_stream.specs.private.steps.Following.{FollowsAsking, IsReading}

-- a piece was read after them, and followed
pub reads_piece : (Holds : List Item → Asked → Type 0) (before now after : Option (List ℕ)) (total : ℕ) (old new : Asking) (piece : List ℕ) (count next : ℕ)
    → IsReading Holds before now total old → total ≤ most_text → Consumes now after piece → count ≡ length piece → next ≡ total + count
    → ((seen : List ℕ) → length seen + length piece ≤ most_text → FollowsAsking Holds seen old → FollowsAsking Holds (seen ++ piece) new)
    → IsReading Holds before after next new
reads_piece Holds before now after total old new piece count next reading short consumed is sum goes_on = record {
  seen = reading.seen ++ piece;
  consumed = Consumes-trans before now after reading.seen piece reading.consumed consumed;
  count = omega (arith, reading.count, is, sum, length-append reading.seen piece);
  follows = λ within. goes_on reading.seen (omega (arith, within, reading.count, is, sum)) (reading.follows short);
}

-- a piece was read after them that passes the limit, and was not followed
pub reads_past : (Holds : List Item → Asked → Type 0) (before now after : Option (List ℕ)) (total : ℕ) (asking : Asking) (piece : List ℕ) (count next : ℕ)
    → IsReading Holds before now total asking → Consumes now after piece → count ≡ length piece → next ≡ total + count → (next ≤ most_text → ⊥)
    → IsReading Holds before after next asking
reads_past Holds before now after total asking piece count next reading consumed is sum long = record {
  seen = reading.seen ++ piece;
  consumed = Consumes-trans before now after reading.seen piece reading.consumed consumed;
  count = omega (arith, reading.count, is, sum, length-append reading.seen piece);
  follows = λ within. absurd (long within);
}

-- no bytes were read
consumes_nothing : (now : Option (List ℕ)) → Consumes now now []
consumes_nothing None = tt
consumes_nothing (Some bytes) = refl

-- before the first byte
pub nothing_read : (Holds : List Item → Asked → Type 0) (now : Option (List ℕ)) (asking : Asking) → FollowsAsking Holds [] asking → IsReading Holds now now 0 asking
nothing_read Holds now asking follows = record {
  seen = [];
  consumed = consumes_nothing now;
  count = refl;
  follows = λ within. follows;
}

-- ---- how it ends

-- no text is refused for a read that failed
no_io : (source : List ℕ) → IsStreamRefusal source Io → ⊥
no_io source (inl (is, long)) = cc
no_io source (inr (short, (items, fault))) = elim fault.refused [
  | inl outside ↦ outside.1
  | inr others ↦ elim others [
    | inl inside ↦ inside.1
    | inr segment ↦ segment.1
  ]
]

-- so no read failed if the text is refused
pub none_failed : {A : Type 0} (result : Result A Refusal) (source : List ℕ) → IfErr result (IsStreamRefusal source) → failures_of result ≡ 0
none_failed (Ok value) source refused = refl
none_failed (Err (Text fault)) source refused = refl
none_failed (Err (Game fault)) source refused = refl
none_failed (Err (Circuit fault)) source refused = refl
none_failed (Err (Automaton fault)) source refused = refl
none_failed (Err (Task fault)) source refused = refl
none_failed (Err Memory) source refused = refl
none_failed (Err Io) source refused = absurd (no_io source refused)

-- the input was read, and its text is refused
pub reads_refused : {A : Type 0} (result : Result A Refusal) (before after : Option (List ℕ)) (source : List ℕ) → IsRead before after source
    → IfErr result (IsStreamRefusal source) → IfErr result (or_memory (or_io (λ refusal. ReadsText before after (λ text. IsStreamRefusal text refusal))))
reads_refused (Ok value) before after source read refused = tt
reads_refused (Err (Text fault)) before after source read refused = record { text = source; read = read; holds = refused }
reads_refused (Err (Game fault)) before after source read refused = record { text = source; read = read; holds = refused }
reads_refused (Err (Circuit fault)) before after source read refused = record { text = source; read = read; holds = refused }
reads_refused (Err (Automaton fault)) before after source read refused = record { text = source; read = read; holds = refused }
reads_refused (Err (Task fault)) before after source read refused = record { text = source; read = read; holds = refused }
reads_refused (Err Memory) before after source read refused = tt
reads_refused (Err Io) before after source read refused = tt

-- what is said of each text that was followed is said of this one
pub at_text : {A : Type 0} (result : Result A Refusal) (Holds : List Item → Asked → Type 0) (asking : Asking) (seen : List ℕ) → length seen ≤ most_text → FollowsAsking Holds seen asking
    → IfErr result (λ refusal. (source : List ℕ) → length source ≤ most_text → FollowsAsking Holds source asking → IsStreamRefusal source refusal)
    → IfErr result (IsStreamRefusal seen)
at_text (Ok value) Holds asking seen short follows says = tt
at_text (Err refusal) Holds asking seen short follows says = says seen short follows

-- a refusal other than for memory is one of the others
pub other_refusal : (Others : Refusal → Type 0) (refusal : Refusal) → or_memory Others refusal → (refusal ≡ Memory → ⊥) → Others refusal
other_refusal Others (Text fault) refused other = refused
other_refusal Others (Game fault) refused other = refused
other_refusal Others (Circuit fault) refused other = refused
other_refusal Others (Automaton fault) refused other = refused
other_refusal Others (Task fault) refused other = refused
other_refusal Others Memory refused other = absurd (other refl)
other_refusal Others Io refused other = refused
