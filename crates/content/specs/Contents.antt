use Rattle.std.specs.Prelude.{◌≡◌, true, false, Some, None, Option}
use Rattle.content.specs.Rules.{Body, sound}
use Rattle.content.specs.Numbers.{stored_body}
use Rattle.content.specs.declared.content.Content.{Content}

-- what the content says
abbrev pub body : Content → Body
body c = stored_body c.stored

-- the content that says it, or none exactly if it is not sound
abbrev pub Made : Body → Option Content → Type 0
Made b None = sound b ≡ false
Made b (Some c) = (sound b ≡ true) × (body c ≡ b)

-- a content is what it says
abbrev pub ToldByBody : Type 0
ToldByBody = (c d : Content) → body c ≡ body d → c ≡ d
