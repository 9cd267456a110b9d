use Rattle.std.specs.Prelude.{◌≡◌, ℕ, ◌^◌, ◌<◌, Some, None, Option}
use Rattle.content.specs.declared.rows.Read.{Read}
use Rattle.content.specs.declared.rows.Write.{Write}
use Rattle.layout.specs.Numbers.{Each}
use Rattle.layout.specs.Values.{Value, Part}
use Rattle.wording.specs.Wording.{text}

-- a number of the code
abbrev pub Sized : ℕ → Type 0
Sized n = n < 2 ^ 64

abbrev pub SizedRead : Read → Type 0
SizedRead r = Sized r.key × Sized r.version.second × Sized r.version.transaction

abbrev pub SizedWrite : Write → Type 0
SizedWrite w = Sized w.key × Sized w.value

abbrev pub SizedPart : Option Part → Type 0
SizedPart None = Unit {0}
SizedPart (Some p) = Sized p.second × Each SizedRead p.reads × Each SizedWrite p.writes

-- every number of a message is one of the code
pub record SizedValue (v : Value) : Type 0 where
  pub transaction : Sized v.header.transaction
  pub sender : Sized v.header.sender
  pub view : Sized v.header.view
  pub code : Sized v.header.code
  pub accepted : Sized v.header.accepted
  pub accepted_view : Sized v.header.accepted_view
  pub content : SizedPart v.content

-- a line leaves nothing of a message out: two messages with one line are one
abbrev pub ToldApart : Type 0
ToldApart = (v w : Value) → SizedValue v → SizedValue w → text v ≡ text w → v ≡ w
