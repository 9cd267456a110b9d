-- How values are written as text.
use Rattle.std.specs.Prelude.{ℕ, List, [], ◌++◌, Some, None, codes, decimal, Option}
use Rattle.values.specs.Numbers.{refusal_number, refusal_value}
use Rattle.values.specs.declared.decision.UnknownNumber.{UnknownNumber}
use Rattle.values.specs.declared.refusal.Refusal.{Refusal}
use Rattle.values.specs.declared.timestamp.Timestamp.{Timestamp}

abbrev pub unknown_words : UnknownNumber → List ℕ
unknown_words e = codes "unknown number " ++ decimal e.0

abbrev pub value_words : Option ℕ → List ℕ
value_words None = []
value_words (Some v) = codes " at " ++ decimal v

-- a refusal's number, and behind it the value where it has one
abbrev pub refusal_words : Refusal → List ℕ
refusal_words r = decimal (refusal_number r) ++ value_words (refusal_value r)

abbrev pub timestamp_words : Timestamp → List ℕ
timestamp_words t = decimal t.second ++ (codes "." ++ decimal t.transaction)
