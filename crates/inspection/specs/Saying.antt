use Rattle.std.specs.Prelude.{◌≡◌, ℕ, Bool, true, false, List, length, Some, None, Ok, Err, codes, Option, Result}
use Rattle.values.specs.declared.refusal.Refusal.{Refusal}
use Rattle.field.specs.Layouts.{Breaks}
use Rattle.frame.specs.Messages.{value}
use Rattle.frame.specs.declared.message.Message.{Message}
use Rattle.layout.specs.Frames.{frame, Lawful, byte_fields}
use Rattle.layout.specs.Values.{Value}
use Rattle.inspection.specs.Counting.{counted}
use Rattle.inspection.specs.Spelling.{unhex}
use Rattle.wording.specs.Wording.{text, refusal_text}
use Rattle.inspection.specs.declared.line.Fault.{Fault}
use Rattle.inspection.specs.declared.line.Fault.TheVariants.{NotHex, Refused}
use Rattle.inspection.specs.declared.tally.Tally.{Tally}

-- why a line is refused
abbrev pub fault_words : Fault → List ℕ
fault_words NotHex = codes "not hex"
fault_words (Refused e) = refusal_text e

-- the message whose frame a line's bytes are, or why there is none
abbrev pub Understood : Option (List ℕ) → Result Message Fault → Type 0
Understood o (Ok m) = (o ≡ Some (frame (value m))) × Lawful (value m)
Understood o (Err NotHex) = o ≡ None
Understood o (Err (Refused e)) = (b : List ℕ) × ((o ≡ Some b) × Breaks (length b) (byte_fields b) e)

-- these words are said of a line, and it is refused or not
pub data Says (line words : List ℕ) (refused : Bool) : Type 0 where
  -- it spells no bytes
  not_hex : unhex line ≡ None → words ≡ codes "not hex" → refused ≡ true → Says line words refused
  -- it spells bytes with a fault
  broken : (b : List ℕ) (e : Refusal) → unhex line ≡ Some b → Breaks (length b) (byte_fields b) e → words ≡ refusal_text e
      → refused ≡ true → Says line words refused
  -- it spells the frame of a message
  framed : (v : Value) → unhex line ≡ Some (frame v) → Lawful v → words ≡ text v → refused ≡ false → Says line words refused

-- and the line is counted
abbrev pub Told : List ℕ → List ℕ → Tally → Tally → Type 0
Told line words before after = (refused : Bool) × (Says line words refused × (after ≡ counted before refused))

-- of a line only one thing is said
abbrev pub OneAnswer : Type 0
OneAnswer = (line w x : List ℕ) (r s : Bool) → Says line w r → Says line x s → (w ≡ x) × (r ≡ s)
