-- Bytes of labels that are written piece by piece.
use Rattle.std.specs.Prelude.{ℕ, Bool, List, [], ◌∷◌, if◌then◌else◌, nat_le, true, false}
use Rattle.std.specs.List.{flat_map}
use Rattle.omega_hoa_label.specs.Label.{LabelTree}
use Rattle.omega_hoa_label.specs.Writing.{label_text}
use Rattle.omega_hoa_label.specs.declared.label.LabelNode.{LabelNode}
use Rattle.omega_hoa_label.specs.declared.label.LabelNode.TheVariants.{And, Or}
use Rattle.omega_synth_text.specs.Winner.{literal}

-- the text of a label
abbrev pub bytes_of : LabelTree → List ℕ
bytes_of label = (label_text label).bytes

-- the text of a proposition if it holds, else of its negation
abbrev pub literal_bytes : Bool → ℕ → List ℕ
literal_bytes holds p = bytes_of (literal holds p)

-- whether `&` or `|` joins the label on top, so that `&` before it needs parentheses
abbrev pub is_joined : LabelTree → Bool
is_joined label = nat_le (label_text label).rank 2

-- an opening parenthesis or nothing
abbrev pub opening : Bool → List ℕ
opening within = if within then 40 ∷ [] else []

-- a closing parenthesis or nothing
abbrev pub closing : Bool → List ℕ
closing within = if within then 41 ∷ [] else []

-- literals, `&` before each
abbrev pub literals_after : (ℕ → Bool) → List ℕ → List ℕ
literals_after held others = flat_map (λ p. 38 ∷ literal_bytes (held p) p) others

-- whether a node joins two parts
abbrev pub joins : LabelNode → Bool
joins And = true
joins Or = true
joins other = false
