-- What each of the seven messages means, and what reading promises.
use Rattle.std.specs.Prelude.{◌≡◌, ℕ, ◌+◌, ◌*◌, ◌/◌, ◌≤◌, true, List, length, take, drop, Some, None, Ok, Err, Option, Result, is_some, slice_index}
use Rattle.values.specs.Numbers.{vote_number, outcome_number}
use Rattle.values.specs.declared.decision.Proposal.{Proposal}
use Rattle.values.specs.declared.refusal.Refusal.{Refusal}
use Rattle.field.specs.Layouts.{Breaks}
use Rattle.layout.specs.declared.format.Header.{Header}
use Rattle.frame.specs.declared.message.Parts.{Parts}
use Rattle.frame.specs.declared.message.Message.{Message}
use Rattle.frame.specs.declared.message.Message.TheVariants.{Prepare, Voted, Accept, Accepted, Decide, ChangeView, Report}
use Rattle.layout.specs.Values.{Part, Value}
use Rattle.layout.specs.Numbers.{number, rows_in, reading, writing}
use Rattle.layout.specs.Format.{rules, limits, accepted_view_limits, content_limits}
use Rattle.layout.specs.Frames.{frame, Lawful, byte_fields}

-- the content that the parts of a frame hold
abbrev pub part_of : Parts → Part
part_of p =
    record {
      second = p.second;
      reads = rows_in reading (length p.reads.now / 9) p.reads.now;
      writes = rows_in writing (length p.writes.now / 8) p.writes.now;
    }

abbrev pub content_of : Option Parts → Option Part
content_of None = None
content_of (Some p) = Some (part_of p)

abbrev pub accepted_number : Option Proposal → ℕ
accepted_number None = 0
accepted_number (Some p) = outcome_number p.outcome

abbrev pub accepted_view : Option Proposal → ℕ
accepted_view None = 0
accepted_view (Some p) = p.view

abbrev pub numbers : ℕ → ℕ → ℕ → ℕ → ℕ → ℕ → ℕ → Header
numbers k t s w c a x = record { kind = k; transaction = t; sender = s; view = w; code = c; accepted = a; accepted_view = x }

-- the letter and the numbers of a message
abbrev pub header : Message → Header
header (Prepare t s p) = numbers 80 t s 0 0 0 0
header (Voted t s v) = numbers 86 t s 0 (vote_number (Some v)) 0 0
header (Accept t s w d p) = numbers 65 t s w (outcome_number d) 0 0
header (Accepted t s w) = numbers 66 t s w 0 0 0
header (Decide t s d p) = numbers 68 t s 0 (outcome_number d) 0 0
header (ChangeView t s w) = numbers 67 t s w 0 0 0
header (Report t s w v a p) = numbers 82 t s w (vote_number v) (accepted_number a) (accepted_view a)

-- the parts that a message holds
abbrev pub parts : Message → Option Parts
parts (Prepare t s p) = Some p
parts (Voted t s v) = None
parts (Accept t s w d p) = p
parts (Accepted t s w) = None
parts (Decide t s d p) = p
parts (ChangeView t s w) = None
parts (Report t s w v a p) = p

-- what a message means
abbrev pub value : Message → Value
value m = record { header = header m; content = content_of (parts m) }

-- the parts are those of the bytes
pub record PartsIn (b : List ℕ) (p : Parts) : Type 0 where
  pub second : p.second ≡ number b 13
  pub reads : p.reads.now ≡ take (9 * slice_index b 17) (drop 19 b)
  pub writes : p.writes.now ≡ take (8 * slice_index b 18) (drop (19 + 9 * slice_index b 17) b)

abbrev pub PartsOf : List ℕ → Option Parts → Type 0
PartsOf b None = slice_index b 12 ≡ 1 → ⊥
PartsOf b (Some p) = (slice_index b 12 ≡ 1) × PartsIn b p

-- what reading bytes answers: the one message whose frame they are, holding the parts of these bytes, or the first fault
abbrev pub Reads : List ℕ → Result Message Refusal → Type 0
Reads b (Ok m) = Lawful (value m) × (b ≡ frame (value m)) × PartsOf b (parts m)
Reads b (Err e) = Breaks (length b) (byte_fields b) e

-- the answer is this message
abbrev pub Answers : Result Message Refusal → Value → Type 0
Answers (Ok m) v = value m ≡ v
Answers (Err e) v = ⊥

-- reading the frame of a lawful message answers that message
abbrev pub Yields : List ℕ → Result Message Refusal → Type 0
Yields b r = (v : Value) → Lawful v → b ≡ frame v → Answers r v

-- no two lawful messages have one frame
abbrev pub OneFrame : Type 0
OneFrame = (v w : Value) → Lawful v → Lawful w → frame v ≡ frame w → v ≡ w

-- a header and a flag that obey their rules
abbrev pub Within : ℕ × ℕ → ℕ → Type 0
Within l x = (l.0 ≤ x) × (x ≤ l.1)

pub record Ruled (h : Header) (flag : ℕ) : Type 0 where
  pub known : is_some (rules h.kind) ≡ true
  pub view : Within (limits h).view h.view
  pub code : Within (limits h).code h.code
  pub accepted : Within (limits h).accepted h.accepted
  pub accepted_view : Within (accepted_view_limits h) h.accepted_view
  pub content : Within (content_limits h) flag
