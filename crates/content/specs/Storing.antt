use Rattle.std.specs.Prelude.{◌≡◌, Bool, true, false, Ok, Err, Result}
use Rattle.content.specs.Rules.{sound}
use Rattle.content.specs.Numbers.{stored_body}
use Rattle.content.specs.Contents.{body}
use Rattle.content.specs.declared.content.Content.{Content}
use Rattle.content.specs.declared.stored.StoredContent.{StoredContent}
use Rattle.content.specs.declared.stored.Unsound.{Unsound}

abbrev pub stored : Content → StoredContent
stored c = c.stored

-- the numbers are those of a content
abbrev pub restorable : StoredContent → Bool
restorable s = sound (stored_body s)

-- the content that says what the numbers say, or none exactly if they are those of no content
abbrev pub Restored : StoredContent → Result Content Unsound → Type 0
Restored s (Err _) = restorable s ≡ false
Restored s (Ok c) = (restorable s ≡ true) × (body c ≡ stored_body s)

-- the numbers of a content give that content back
abbrev pub RestoresStored : Type 0
RestoresStored = (s : StoredContent) (r : Result Content Unsound) (c : Content) → Restored s r → s ≡ stored c → r ≡ Ok c

-- what a restoring answers: the content that says what the numbers say, or none exactly if they are those of no content; and for a content's numbers that very content
pub record Restores (s : StoredContent) (r : Result Content Unsound) : Type 0 where
  pub restored : Restored s r
  pub back : (c : Content) → s ≡ stored c → r ≡ Ok c
